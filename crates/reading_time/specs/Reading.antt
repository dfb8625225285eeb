-- A reading of a clock, as a text writes it, and the ticks of 2^-32 s for which it stands.
--
-- The text is a date and a time of day in UTC, as a claim has its times, or a number of Unix
-- seconds of one to ten digits. Either may have a fraction, a point and one to nine digits, before
-- the Z of a time in UTC. The clock shows what is written for as long as its last digit says:
-- `12.3` from 12.3 s on, to below 12.4 s, and `12` for a second.
use Rattle.std.specs.Prelude.{ℕ, ◌+◌, ◌-◌, ◌*◌, ◌^◌, ◌<◌, ◌≤◌, ◌==◌, nat_eq, nat_le, nat_lt, not, Bool, true, false, ◌&&◌, List, [], ◌∷◌, ◌++◌, codes, drop, length, take, Option, Some, None, if◌then◌else◌}
use Rattle.std.specs.List.{ends_with, list_all, prefix_len}
use Rattle.claim_file.specs.Time.{time_of}
use Rattle.era_unfold.specs.Ratio.{floor_of, ceiling_of}
use Rattle.era_unfold.specs.Window.{ticks_per_second}
use Rattle.reading_time.specs.declared.reading.Reading.{Reading}

-- ---- decimal numbers

abbrev pub is_digit : ℕ → Bool
is_digit byte = nat_le 48 byte && nat_le byte 57

-- a number of one to so many digits
abbrev pub is_numeral : ℕ → List ℕ → Bool
is_numeral most text =
    nat_le 1 (length text) && nat_le (length text) most && list_all is_digit text

-- the number that digits say behind a number
abbrev pub number_from : ℕ → List ℕ → ℕ
number_from n [] = n
number_from n (digit ∷ digits) = number_from (n * 10 + (digit - 48)) digits

abbrev pub number_of : List ℕ → ℕ
number_of digits = number_from 0 digits

-- ---- what a text is made of

-- it is a time in UTC if it ends with a Z
abbrev pub is_utc : List ℕ → Bool
is_utc text = ends_with nat_eq text (codes "Z")

abbrev pub without_z : List ℕ → List ℕ
without_z text = if is_utc text then take (length text - 1) text else text

-- what stands before the first point, and from it on
abbrev pub is_no_point : ℕ → Bool
is_no_point byte = not (byte == 46)

abbrev pub whole_of : List ℕ → List ℕ
whole_of text = take (prefix_len is_no_point text) text

abbrev pub fraction_of : List ℕ → List ℕ
fraction_of text = drop (prefix_len is_no_point text) text

-- no fraction, or a point and one to nine digits
abbrev pub is_fraction : List ℕ → Bool
is_fraction [] = true
is_fraction (byte ∷ digits) = (byte == 46) && is_numeral 9 digits

-- the digits behind the point
abbrev pub digits_of : List ℕ → List ℕ
digits_of fraction = drop 1 fraction

-- the Unix second that is written in UTC, but for its Z, or as a number
abbrev pub second_of : Bool → List ℕ → Option ℕ
second_of true whole = time_of (whole ++ codes "Z")
second_of false whole = if is_numeral 10 whole then Some (number_of whole) else None

-- ---- for which ticks it stands

-- into how many parts so many digits cut a second
abbrev pub parts_of : List ℕ → ℕ
parts_of digits = 10 ^ length digits

-- the last tick that isn't after the reading's first moment
unfoldable pub begin_of : ℕ → List ℕ → ℕ
begin_of second digits =
    floor_of ((second * parts_of digits + number_of digits) * ticks_per_second) (parts_of digits)

-- the first tick that isn't before the moment at which its last digit changes
unfoldable pub end_of : ℕ → List ℕ → ℕ
end_of second digits =
    ceiling_of ((second * parts_of digits + number_of digits + 1) * ticks_per_second)
    (parts_of digits)

-- ---- what a text says

-- a reading as it is written, and its first and last tick
pub record ReadingData : Type 0 where
  pub text : List ℕ
  pub begin : ℕ
  pub end : ℕ

abbrev pub reading_data : Reading → ReadingData
reading_data r = record { text = r.text.items; begin = r.begin; end = r.end }

-- the reading of a second, if there is one before the last of 32 bits, and of these digits
abbrev pub reading_at : List ℕ → List ℕ → Option ℕ → Option ReadingData
reading_at text digits None = None
reading_at text digits (Some second) =
    if nat_lt second (2 ^ 32 - 1)
    then Some (record { text = text; begin = begin_of second digits; end = end_of second digits })
    else None

-- what a text says, which has at most 30 bytes
abbrev pub reading_of : List ℕ → Option ReadingData
reading_of text =
    let body = without_z text in
    if nat_le (length text) 30 && is_fraction (fraction_of body)
    then reading_at text (digits_of (fraction_of body)) (second_of (is_utc text) (whole_of body))
    else None

-- its ticks are among those of 32 bits of seconds
pub record IsLawfulReading (r : ReadingData) : Type 0 where
  pub in_order : r.begin ≤ r.end
  pub in_range : r.end < 2 ^ 64
