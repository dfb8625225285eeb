-- Why a reply gives no exchange. A reply counts under the first reason that applies.
use Rattle.std.specs.Prelude.{ℕ, ◌==◌, ◌&&◌, ◌||◌, not, nat_le, int_lt, pos, List, Bool, Option, Some, None, if◌then◌else◌}
use Rattle.ntp_packet.specs.Header.{leap_of, version_of, stratum_of, precision_of, origin_of, receive_of, transmit_of}
use Rattle.pairing.specs.declared.refusal.Refusal.{Refusal}
use Rattle.pairing.specs.declared.refusal.Refusal.TheVariants.{Version, Leap, Stratum, Precision, ZeroStamp, NoRequest, Ambiguous}

-- a primary or a secondary server (RFC 5905, section 7.3)
abbrev pub is_synchronized_stratum : ℕ → Bool
is_synchronized_stratum stratum = nat_le 1 stratum && nat_le stratum 15

-- the stamp zero says "unknown" (RFC 5905, section 6)
abbrev pub has_zero_stamp : List ℕ → Bool
has_zero_stamp header = origin_of header == 0 || receive_of header == 0 || transmit_of header == 0

-- the first reason that a reply's own header gives
unfoldable pub refusal_of : List ℕ → Option Refusal
refusal_of header =
    if not (version_of header == 4) then Some Version else
    if leap_of header == 3 then Some Leap else
    if not (is_synchronized_stratum (stratum_of header)) then Some Stratum else
    if int_lt (pos 16) (precision_of header) then Some Precision else
    if has_zero_stamp header then Some ZeroStamp else None

-- a reason's place in the order
abbrev pub order_of : Refusal → ℕ
order_of Version = 1
order_of Leap = 2
order_of Stratum = 3
order_of Precision = 4
order_of ZeroStamp = 5
order_of NoRequest = 6
order_of Ambiguous = 7

-- whether two reasons are the same
abbrev pub same_refusal : Refusal → Refusal → Bool
same_refusal a b = order_of a == order_of b
