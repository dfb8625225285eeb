-- Texts for a person, read back as numbers. A reader knows nothing of how a text is written: it
-- goes by the digits, by their places, and by the signs between them.
use Rattle.std.specs.Prelude.{◌≡◌, ℕ, zero, suc, ◌+◌, ◌-◌, ◌*◌, ◌^◌, ◌<◌, ◌==◌, nat_lt, ℤ, pos, negsuc, ◌+ℤ◌, ◌*ℤ◌, Bool, true, not, ◌&&◌, ◌||◌, List, ◌++◌, length, take, drop, codes, slice_index, Option, Some, None, option_map, option_and_then, if◌then◌else◌}
use Rattle.std.specs.Char.{is_digit}
use Rattle.std.specs.List.{list_all}
use Rattle.std.specs.Str.{bytes_eq}
use Rattle.std.specs.Str.Parse.{digits_value}
use Rattle.jiff_core.specs.Calendar.{IsCivilDate, days_from_civil}

-- digits, and nothing else
abbrev pub are_digits : List ℕ → Bool
are_digits text = nat_lt 0 (length text) && list_all (λ byte. is_digit byte 10) text

-- the same, without a zero before other digits
abbrev pub is_whole : List ℕ → Bool
is_whole text = are_digits text && ((length text == 1) || not (slice_index text 0 == 48))

-- a whole number
abbrev pub read_whole : List ℕ → Option ℕ
read_whole text = if is_whole text then Some (digits_value 10 text) else None

-- a number with so many digits behind its point, in units of the last
abbrev pub read_decimal : ℕ → List ℕ → Option ℕ
read_decimal places text =
    let point = length text - places - 1 in
    if is_whole (take point text) && (slice_index text point == 46)
    && are_digits (drop (point + 1) text)
    then Some (digits_value 10 (take point text) * 10 ^ places
    + digits_value 10 (drop (point + 1) text))
    else None

-- a number below zero by its distance from it, which isn't 0
abbrev pub below_zero : ℕ → Option ℤ
below_zero zero = None
below_zero (suc n) = Some (negsuc n)

-- the same with a minus sign before it, if it is below zero
abbrev pub read_signed : ℕ → List ℕ → Option ℤ
read_signed places text =
    if slice_index text 0 == 45 then option_and_then below_zero (read_decimal places (drop 1 text))
    else option_map pos (read_decimal places text)

-- A text that says this number, and behind it in which unit.
pub record SaysIn (unit : List ℕ) (places : ℕ) (text : List ℕ) (n : ℕ) : Type 0 where
  pub amount : List ℕ
  pub spelled : text ≡ amount ++ unit
  pub read : read_decimal places amount ≡ Some n

-- the number that so many digits write, from a place on
abbrev pub number_at : ℕ → ℕ → List ℕ → ℕ
number_at place count text = digits_value 10 (take count (drop place text))

abbrev pub are_digits_at : ℕ → ℕ → List ℕ → Bool
are_digits_at place count text = are_digits (take count (drop place text))

-- digits and signs stand as in `YYYY-MM-DDTHH:MM:SS`
abbrev pub is_clock : List ℕ → Bool
is_clock text =
    (length text == 19)
    && are_digits_at 0 4 text && (slice_index text 4 == 45)
    && are_digits_at 5 2 text && (slice_index text 7 == 45)
    && are_digits_at 8 2 text && (slice_index text 10 == 84)
    && are_digits_at 11 2 text && (slice_index text 13 == 58)
    && are_digits_at 14 2 text && (slice_index text 16 == 58) && are_digits_at 17 2 text

-- A text that says a day of the calendar and a time of that day, and the Unix second which this is.
pub record SaysSecond (text : List ℕ) (second : ℕ) : Type 0 where
  pub spelled : is_clock text ≡ true
  pub date : IsCivilDate (pos (number_at 0 4 text)) (number_at 5 2 text) (number_at 8 2 text)
  pub hour : number_at 11 2 text < 24
  pub minute : number_at 14 2 text < 60
  pub second_below : number_at 17 2 text < 60
  pub counted :
      days_from_civil (pos (number_at 0 4 text)) (number_at 5 2 text) (number_at 8 2 text)
      *ℤ pos 86400
      +ℤ pos (3600 * number_at 11 2 text + 60 * number_at 14 2 text + number_at 17 2 text)
      ≡ pos second

-- what stands behind the second: nothing, or a point and nine digits, and the letter that says UTC
abbrev pub read_part : List ℕ → Option ℕ
read_part text =
    if bytes_eq text (codes "Z") then Some 0
    else (
    if (length text == 11) && (slice_index text 0 == 46) && are_digits_at 1 9 text
    && (slice_index text 10 == 90)
    then Some (number_at 1 9 text) else None)

-- A text that says this nanosecond of the Unix epoch: its second, and its part of a second.
pub record SaysMoment (text : List ℕ) (second part : ℕ) : Type 0 where
  pub clock : SaysSecond (take 19 text) second
  pub rest : read_part (drop 19 text) ≡ Some part
