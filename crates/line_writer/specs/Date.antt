-- A Unix second as a date and a time of day in UTC, as RFC 3339 writes it.
--
-- The calendar is that of Gregory. A year is taken to begin in March here, so that the day of a
-- leap year is its last, and days are counted from the first of March of the year -10000. A law
-- says that the text reads back as the second.
use Rattle.std.specs.Prelude.{ℕ, ◌+◌, ◌-◌, ◌*◌, ◌/◌, ◌%◌, nat_lt, if◌then◌else◌, List, ◌++◌, codes}
use Rattle.era_unfold.specs.Digits.{two_digits, four_digits}

-- the days from that first of March to a day that is counted from 1970 on
abbrev pub march_day : ℕ → ℕ
march_day day = day + 4371893

-- of a day of a century, four times its place and three, so that a year has 1461 of them
abbrev pub quarters_of : ℕ → ℕ
quarters_of day = (4 * march_day day + 3) % 146097 / 4 * 4 + 3

-- the year that began in March, counted from the year -10000, and how many days of it have passed
abbrev pub march_year : ℕ → ℕ
march_year day = 100 * ((4 * march_day day + 3) / 146097) + quarters_of day / 1461

abbrev pub days_passed : ℕ → ℕ
days_passed day = quarters_of day % 1461 / 4

-- the months from March, 3, to February, 14, have 153 days in each five of them
abbrev pub month_scaled : ℕ → ℕ
month_scaled day = 5 * days_passed day + 461

abbrev pub march_month : ℕ → ℕ
march_month day = month_scaled day / 153

-- year, month and day of the month
abbrev pub year_of : ℕ → ℕ
year_of day = (if nat_lt 12 (march_month day) then march_year day + 1 else march_year day) - 10000

abbrev pub month_of : ℕ → ℕ
month_of day = if nat_lt 12 (march_month day) then march_month day - 12 else march_month day

abbrev pub day_of : ℕ → ℕ
day_of day = month_scaled day % 153 / 5 + 1

-- a day that is counted from 1970 on
abbrev pub date_text : ℕ → List ℕ
date_text day =
    four_digits (year_of day) ++ codes "-" ++ two_digits (month_of day) ++ codes "-" ++
    two_digits (day_of day)

-- the day of a Unix second, counted from 1970 on, and its hour, its minute and its second there
abbrev pub day_number : ℕ → ℕ
day_number second = second / 86400

abbrev pub hour_of : ℕ → ℕ
hour_of second = second / 3600 % 24

abbrev pub minute_of : ℕ → ℕ
minute_of second = second / 60 % 60

abbrev pub second_of : ℕ → ℕ
second_of second = second % 60

-- a Unix second, up to the letter that says UTC
abbrev pub clock_text : ℕ → List ℕ
clock_text second =
    date_text (day_number second) ++ codes "T" ++ two_digits (hour_of second) ++ codes ":" ++
    two_digits (minute_of second) ++ codes ":" ++ two_digits (second_of second)

-- the whole
abbrev pub time_text : ℕ → List ℕ
time_text second = clock_text second ++ codes "Z"
