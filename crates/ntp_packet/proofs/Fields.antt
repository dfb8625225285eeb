-- How large the fields of a header are.
use Rattle.std.proofs.Common.{◌≡◌, ℕ, ◌+◌, ◌-◌, ◌<◌, ◌^◌, List, arith}
use Rattle.std.specs.Prelude.{pos, negsuc, ◌+ℤ◌, ◌≤ℤ◌, ◌⊎◌, slice_range}
use Rattle.std.proofs.lemmas.Bool.Decides.{nat_tests}
use Rattle.std.proofs.lemmas.Grind.{and_numeral}
use Rattle.std.proofs.lemmas.Int.{ints}
use Rattle.std.proofs.lemmas.List.Elements.{All-take, All-drop}
use Rattle.byteorder.specs.Endian.{twos_complement}
use Rattle.byteorder.specs.Numbers.{big_from-lt}
use Rattle.byte_stream.specs.Bytes.{IsBytes, byte_at-lt}
use Rattle.ntp_packet.specs.Header.{field}

-- the bits that a mask leaves
pub ruleset bits = (and_numeral)

pub field_lt : (first width : ℕ) (bytes : List ℕ) → IsBytes bytes → field first width bytes < 256 ^ width
unfolding field
field_lt first width bytes h =
    let rest = All-drop (λ (byte : ℕ). byte < 256) first bytes h in
    let part = All-take (λ (byte : ℕ). byte < 256) (first + width - first) _ rest in
    big_from-lt 0 width (slice_range bytes first (first + width)) (byte_at-lt _ part)

pub twos_complement-least : (byte : ℕ) → negsuc 127 ≤ℤ twos_complement 1 byte
twos_complement-least byte = grind (arith, nat_tests, ints)

pub twos_complement-greatest : (byte : ℕ) → byte < 256 → twos_complement 1 byte ≤ℤ pos 127
twos_complement-greatest byte h = grind (arith, nat_tests, ints)

pub twos_complement-same : (byte : ℕ) → (twos_complement 1 byte ≡ pos byte)
    ⊎ (twos_complement 1 byte +ℤ pos 256 ≡ pos byte)
twos_complement-same byte = grind (arith, nat_tests, ints)

pub ruleset signed_range = (field_lt, twos_complement-least, twos_complement-greatest, twos_complement-same)

pub ruleset byte_range = (byte_at-lt)
