-- The date of a day, by years that begin in March.
use Rattle.line_writer.proofs.Common.{◌≡◌, ◌*◌, ℕ, suc, pos, ◌+ℤ◌, ◌+◌, ◌-◌, ◌^◌, ◌<◌, ◌≤◌, nat_lt, true, false, inl, inr, arith, cases_lt, nat_tests, signed_arith, day_number, march_day, march_year, days_passed, march_month, year_of, month_of, day_of, hour_of, minute_of, second_of}
use Rattle.jiff_core.specs.March.{march_days}
use Rattle.jiff_core.specs.Calendar.{IsCivilDate, day_count, days_from_civil}
use Rattle.jiff_core.proofs.CalendarLemmas.{days_from_civil-day_count}
use Rattle.jiff_core.proofs.MarchLemmas.{leap_day, leap_day-shift, march_days-suc, day_count-early, day_count-late, day_in_month, day_in_early_month, month_and_day}

-- the year that began in March is the day's
years_whole : (day : ℕ) → day < 49711 → march_days (march_year day) + days_passed day ≡ march_day day
years_whole day h = omega arith

years_within : (day : ℕ) → day < 49711 → march_day day < march_days (suc (march_year day))
years_within day h = omega arith

passed_bound : (day : ℕ) → days_passed day < 366
passed_bound day = omega arith

year_bounds : (day : ℕ) → day < 49711 → (11968 < march_year day) × (march_year day < 12107)
year_bounds day h = (omega arith, omega arith)

-- the day of a date, if its number among the days of the calendar is known
counted : (day y m d : ℕ) → day_count (pos y) m d ≡ day + 4371953 → days_from_civil (pos y) m d ≡ pos day
counted day y m d h = omega (arith, signed_arith, days_from_civil-day_count (pos y) m d, h)

-- the months up to December
late : (day : ℕ) → day < 49711 → march_month day ≤ 12 →
    IsCivilDate (pos (march_year day - 10000)) (march_month day) (day_of day)
    × (day_count (pos (march_year day - 10000)) (march_month day) (day_of day) ≡ day + 4371953)
late day h early =
    let bounds = year_bounds day h in
    let y = pos (march_year day - 10000) in
    let n = days_passed day in
    let in_month = day_in_month y n early in
    let count = day_count-late y (march_year day) (march_month day) (day_of day)
    (omega (arith, signed_arith)) (omega arith) early (omega arith) in (
      (omega (arith, signed_arith), (omega arith, early), (omega arith, in_month)),
      omega (arith, count, month_and_day n (passed_bound day), years_whole day h),
    )

-- January and February, of the next year
early : (day : ℕ) → day < 49711 → 12 < march_month day →
    IsCivilDate (pos (march_year day + 1 - 10000)) (march_month day - 12) (day_of day)
    × (day_count (pos (march_year day + 1 - 10000)) (march_month day - 12) (day_of day) ≡ day + 4371953)
early day h late =
    let bounds = year_bounds day h in
    let y = pos (march_year day + 1 - 10000) in
    let n = days_passed day in
    let place : y +ℤ pos 10000 ≡ pos (suc (march_year day)) = omega (arith, signed_arith) in
    let leap = leap_day-shift y (suc (march_year day)) place in
    let within : n < 365 + leap_day y =
    omega (arith, leap, years_whole day h, years_within day h, march_days-suc (march_year day)) in
    let in_month = day_in_early_month y n late within in
    let few : march_month day - 12 ≤ 2 = omega (arith, passed_bound day) in
    let month : march_month day - 12 + 12 ≡ march_month day = omega arith in
    let count = day_count-early y (march_year day) (march_month day - 12) (day_of day) place (omega arith) few
    (omega arith) in (
      (omega (arith, signed_arith), (omega arith, omega arith), (omega arith, in_month)),
      omega (arith, rw month at count, month_and_day n (passed_bound day), years_whole day h),
    )

-- the date of a day is one of the calendar, and the day's
pub record IsDateOf (day : ℕ) : Type 0 where
  pub civil : IsCivilDate (pos (year_of day)) (month_of day) (day_of day)
  pub counted : days_from_civil (pos (year_of day)) (month_of day) (day_of day) ≡ pos day

-- the time of day of a second is its own
pub record IsTimeOf (second : ℕ) : Type 0 where
  pub date : IsDateOf (day_number second)
  pub hour : hour_of second < 24
  pub minute : minute_of second < 60
  pub second_below : second_of second < 60
  pub counted :
      86400 * day_number second + 3600 * hour_of second + 60 * minute_of second + second_of second
      ≡ second

pub dates : (day : ℕ) → day < 49711 → IsDateOf day
dates day h = elim (cases_lt 12 (march_month day)) [
  | inl after ↦
      let test : nat_lt 12 (march_month day) ≡ true = grind (arith, nat_tests) in
      record {
        civil = rw test (early day h after).0;
        counted = rw test (counted day _ _ _ (early day h after).1);
      }
  | inr before ↦
      let test : nat_lt 12 (march_month day) ≡ false = grind (arith, nat_tests) in
      record {
        civil = rw test (late day h before).0;
        counted = rw test (counted day _ _ _ (late day h before).1);
      }
]

pub times : (second : ℕ) → second < 2 ^ 32 → IsTimeOf second
times second h = record {
  date = dates (day_number second) (omega arith);
  hour = omega arith;
  minute = omega arith;
  second_below = omega arith;
  counted = omega arith;
}
