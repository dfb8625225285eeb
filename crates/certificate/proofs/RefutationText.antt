-- The text of a refutation, read as JSON, is the refutation's value, which says the refutation.
use Rattle.certificate.proofs.Common.{◌≡◌, ℕ, suc, ◌-◌, ◌*◌, ◌<◌, ◌≤◌, ◌^◌, ℤ, pos, negsuc, ◌≤ℤ◌, ◌<ℤ◌, List, [], ◌∷◌, length, map, Some, Ok, refl, ap, ◌∙◌, arith, append_assoc, decimal, length-append, lt-ltb, le-leb, IsAscii-signed, length-decimal-le, length_signed_le, IsUtf8-from_ascii, signed_decimal, join_with_byte, All, given, serde_json_on_literals, number, of_integer, as_i64, is_float, items_of, compact_text, number_text, has_float, items_have_float, RefutationData, IsHeldRefutation, max_liars, server_of, servers_of, refutation_from, refutation_of, refutation_text, refutation_value, comma, number_value, IsPlain, items_nesting, nesting, parsed_compact, plain_items, plain_number}
use Rattle.std.proofs.lemmas.Int.{ints}
use lib.Signed.{mag}
use Rattle.std.specs.Prelude.{false}
use Rattle.json.proofs.Printed.Decimals.{IsNumber-signed_decimal}
use Rattle.serde_json.proofs.Numbers.{number_of-negative}
use Rattle.certificate.specs.declared.refutation_fault.RefutationFault.TheVariants.{Json}
use Rattle.certificate.proofs.ReadBack.{items_len-map}
use Rattle.certificate.proofs.Texts.{items_text-map}

-- ---- what the value says

server_of-value : (server : ℕ) → server < 2 ^ 8 → server_of (number_value server) ≡ Some server
server_of-value server small = rw (lt-ltb server (2 ^ 8) small) refl

servers_of-values : (servers : List ℕ) → All (λ s. s < 2 ^ 8) servers →
    servers_of (items_of (map number_value servers)) ≡ Some servers
servers_of-values [] small = refl
servers_of-values (s ∷ ss) small =
    let rest = servers_of-values ss (λ k d less. small (suc k) d (omega arith)) in
    rw (server_of-value s (small 0 s (omega arith)), rest) refl

-- an error of 64 bits is read as it stands
error_of-value : (error : ℤ) → error <ℤ pos (2 ^ 63) → as_i64 (of_integer error) ≡ Some error
error_of-value (pos n) small = rw (lt-ltb n (2 ^ 63) (omega (arith, ints))) refl
error_of-value (negsuc n) small = refl

pub refutation_from-value : (refutation : RefutationData) → IsHeldRefutation refutation →
    refutation_from (refutation_value refutation) ≡ Ok refutation
refutation_from-value refutation held =
    rw (
      error_of-value refutation.error held.greatest,
      items_len-map number_value refutation.liars,
      le-leb (length refutation.liars) max_liars held.few,
      servers_of-values refutation.liars held.named,
    ) refl

-- ---- what the text says

mag-small : (error : ℤ) → negsuc (2 ^ 63 - 1) ≤ℤ error → error <ℤ pos (2 ^ 63) → mag error < 2 ^ 63
mag-small (pos n) least greatest = omega (arith, ints)
mag-small (negsuc n) least greatest = omega (arith, ints)

plain_error : (error : ℤ) → negsuc (2 ^ 63 - 1) ≤ℤ error → error <ℤ pos (2 ^ 63) → IsPlain (number (of_integer error))
plain_error (pos n) least greatest = plain_number n (omega (arith, ints))
plain_error (negsuc n) least greatest =
    let less : n < 2 ^ 63 = omega (arith, ints) in
    record {
      reads = number_of-negative n less;
      printed = IsNumber-signed_decimal (negsuc n) less;
      utf8 = IsUtf8-from_ascii _ (IsAscii-signed (negsuc n) less);
    }

error_text-value : (error : ℤ) → number_text (of_integer error) ≡ signed_decimal error
error_text-value (pos n) = refl
error_text-value (negsuc n) = refl

plain_refutation : (refutation : RefutationData) → IsHeldRefutation refutation → IsPlain (refutation_value refutation)
unfolding serde_json_on_literals
plain_refutation refutation held =
    let error = plain_error refutation.error held.least held.greatest in
    let liars = plain_items number_value refutation.liars
    (λ k d less. plain_number _ (omega (arith, held.named k d less))) in
    (refl, (refl, error, (refl, liars, (refl, plain_number refutation.reading held.reading, tt))))

-- the text is that of the value, which has no float
error-no_float : (error : ℤ) → is_float (of_integer error) ≡ false
error-no_float (pos n) = refl
error-no_float (negsuc n) = refl

servers-no_float : (servers : List ℕ) → items_have_float (items_of (map number_value servers)) ≡ false
servers-no_float [] = refl
servers-no_float (s ∷ ss) = servers-no_float ss

pub refutation-no_float : (refutation : RefutationData) → has_float (refutation_value refutation) ≡ false
refutation-no_float refutation = rw (error-no_float refutation.error, servers-no_float refutation.liars) refl

pub text-value : (refutation : RefutationData) → compact_text (refutation_value refutation) ≡ refutation_text refutation
unfolding serde_json_on_literals
text-value refutation =
    rw (error_text-value refutation.error, items_text-map number_value decimal (λ n. refl) refutation.liars)
    (simp append_assoc)

pub refutation_of-text : (refutation : RefutationData) → IsHeldRefutation refutation →
    refutation_of (refutation_text refutation) ≡ Ok refutation
refutation_of-text refutation held =
    let shallow : nesting (refutation_value refutation) ≤ 127 =
    omega (arith, items_nesting number_value 0 (λ n. omega arith) refutation.liars) in
    let read = parsed_compact (refutation_value refutation) (plain_refutation refutation held) shallow in
    rw (← text-value refutation) (ap (λ o. given Json o refutation_from) read ∙ refutation_from-value refutation held)

-- ---- how long the text is

server-short : (server : ℕ) → server < 2 ^ 8 → length (decimal server) ≤ 3
server-short server small = length-decimal-le 3 server (omega arith) (omega arith) (omega arith)

joined-short : (servers : List ℕ) → All (λ s. s < 2 ^ 8) servers →
    length (join_with_byte comma (map decimal servers)) ≤ 4 * length servers
joined-short [] small = omega arith
joined-short (s ∷ []) small = omega (arith, server-short s (small 0 s (omega arith)))
joined-short (s ∷ t ∷ ss) small =
    simp length-append (omega (
      arith,
      server-short s (small 0 s (omega arith)),
      joined-short (t ∷ ss) (λ k d less. small (suc k) d (omega arith)),
    ))

pub refutation_text-short : (refutation : RefutationData) → IsHeldRefutation refutation →
    length (refutation_text refutation) ≤ 65536
refutation_text-short refutation held =
    let size = mag-small refutation.error held.least held.greatest in
    let error = length_signed_le 20 refutation.error (omega (arith, size)) size in
    let liars = joined-short refutation.liars held.named in
    let reading = length-decimal-le 20 refutation.reading (omega arith) (omega (arith, held.reading)) held.reading in
    simp length-append (omega (arith, error, liars, reading, held.few))
