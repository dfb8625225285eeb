-- A date and time of day in UTC, and the text that writes it.
--
-- It is written `YYYY-MM-DDTHH:MM:SSZ`, the date-time of RFC 3339 (a profile of ISO 8601), with
-- capital letters, without a fraction and always in UTC. Its Unix second is the number of its day,
-- counted from 1970-01-01 in the Gregorian calendar, times 86400, and the time of day.
use Rattle.std.specs.Prelude.{◌≡◌, ℕ, ◌+◌, ◌-◌, ◌*◌, ◌^◌, ◌<◌, ℤ, pos, negsuc, ◌+ℤ◌, ◌*ℤ◌, Bool, ◌&&◌, List, ◌++◌, slice_index, codes, nat_lt, nat_le, Option, Some, None, if◌then◌else◌}
use Rattle.std.specs.Str.{bytes_eq}
use Rattle.jiff_core.specs.Calendar.{IsCivilDate, days_in_month, days_from_civil}
use Rattle.claim_file.specs.declared.time.DateTime.{DateTime}
use Rattle.era_unfold.specs.Digits.{two_digits, four_digits}

-- the calendar has this day, in a year of four digits
abbrev pub is_date : ℕ → ℕ → ℕ → Bool
is_date year month day =
    nat_lt year 10000 && nat_le 1 month && nat_le month 12
    && nat_le 1 day && nat_le day (days_in_month (pos year) month)

-- it exists: its day does, and the day has this hour, minute and second
abbrev pub exists : DateTime → Bool
exists m =
    is_date m.year m.month m.day && nat_lt m.hour 24 && nat_lt m.minute 60 && nat_lt m.second 60

-- its second, counted from 1970-01-01T00:00:00Z
abbrev pub unix_second : DateTime → ℤ
unix_second m =
    days_from_civil (pos m.year) m.month m.day *ℤ pos 86400
    +ℤ pos (m.hour * 3600 + m.minute * 60 + m.second)

-- the text that writes it
abbrev pub spelling : DateTime → List ℕ
spelling m =
    four_digits m.year ++ codes "-" ++ two_digits m.month ++ codes "-" ++ two_digits m.day
    ++ codes "T" ++ two_digits m.hour ++ codes ":" ++ two_digits m.minute ++ codes ":"
    ++ two_digits m.second ++ codes "Z"

-- the text writes a date and time in UTC that exist, and this is their number among the 2^32
-- seconds from 1970-01-01T00:00:00Z on
pub record IsTime (text : List ℕ) (second : ℕ) : Type 0 where
  pub year : ℕ
  pub month : ℕ
  pub day : ℕ
  pub hour : ℕ
  pub minute : ℕ
  pub second_of_minute : ℕ
  pub date : IsCivilDate (pos year) month day
  pub time_of_day : (hour < 24) × (minute < 60) × (second_of_minute < 60)
  pub spelled : text ≡ four_digits year ++ codes "-" ++ two_digits month ++ codes "-"
      ++ two_digits day ++ codes "T" ++ two_digits hour ++ codes ":" ++ two_digits minute
      ++ codes ":" ++ two_digits second_of_minute ++ codes "Z"
  pub counted : days_from_civil (pos year) month day *ℤ pos 86400
      +ℤ pos (hour * 3600 + minute * 60 + second_of_minute) ≡ pos second
  pub in_range : second < 2 ^ 32

-- the number that two digits say
abbrev pub pair_value : ℕ → ℕ → ℕ
pair_value tens ones = (tens - 48) * 10 + (ones - 48)

-- the date and time that the digits of a text say, whatever else stands there
abbrev pub date_time_at : List ℕ → DateTime
date_time_at text = record {
  year = pair_value (slice_index text 0) (slice_index text 1) * 100
      + pair_value (slice_index text 2) (slice_index text 3);
  month = pair_value (slice_index text 5) (slice_index text 6);
  day = pair_value (slice_index text 8) (slice_index text 9);
  hour = pair_value (slice_index text 11) (slice_index text 12);
  minute = pair_value (slice_index text 14) (slice_index text 15);
  second = pair_value (slice_index text 17) (slice_index text 18);
}

-- a number among the 2^32 from 0 on
abbrev pub in_u32 : ℤ → Option ℕ
in_u32 (pos n) = if nat_lt n (2 ^ 32) then Some n else None
in_u32 (negsuc n) = None

-- the Unix second that a text says: it says one if it is the very text that writes what it says
abbrev pub time_of : List ℕ → Option ℕ
time_of text =
    let m = date_time_at text in
    if exists m && bytes_eq text (spelling m) then in_u32 (unix_second m) else None
