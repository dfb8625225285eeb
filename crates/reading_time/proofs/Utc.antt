-- A text of a time in UTC has 20 bytes, which are ASCII.
use Rattle.reading_time.proofs.Common.{◌≡◌, ◌≢◌, ℕ, ◌+◌, ◌/◌, ◌%◌, ◌<◌, ◌++◌, ◌∷◌, [], pos, List, length, Option, Some, None, refl, ap, subst, sym, arith, ints, IsUtf8, IsAscii, IsTime, time_of, two_digits}
use Rattle.std.proofs.lemmas.Str.{IsUtf8-from_ascii}
use Rattle.std.proofs.lemmas.Str.Ascii.{IsAscii-cons, IsAscii-nil}
use Rattle.claim_file.proofs.Times.{IsTime-time_of}
use Rattle.jiff_core.proofs.CalendarLemmas.{days_in_month_bounds}

none_unless : (o : Option ℕ) → ((second : ℕ) → o ≡ Some second → ⊥) → None ≡ o
none_unless None never = refl
none_unless (Some second) never = absurd (never second refl)

pub time_of-long : (text : List ℕ) → length text ≢ 20 → None ≡ time_of text
time_of-long text other =
    none_unless (time_of text) (λ second is. other (ap length (IsTime-time_of text second is).spelled))

digits_are_ascii : (n : ℕ) (rest : List ℕ) → n < 100 → IsAscii rest → IsAscii (two_digits n ++ rest)
digits_are_ascii n rest small ascii =
    IsAscii-cons (48 + n / 10) ((48 + n % 10) ∷ rest) (omega arith)
    (IsAscii-cons (48 + n % 10) rest (omega arith) ascii)

-- the end of a text from one of its parts on
abbrev after_minute : ℕ → List ℕ
after_minute second = 58 ∷ (two_digits second ++ 90 ∷ [])

abbrev after_hour : ℕ → ℕ → List ℕ
after_hour minute second = 58 ∷ (two_digits minute ++ after_minute second)

abbrev after_day : ℕ → ℕ → ℕ → List ℕ
after_day hour minute second = 84 ∷ (two_digits hour ++ after_hour minute second)

clock_is_ascii : (hour minute second : ℕ) → hour < 100 → minute < 100 → second < 100
    → IsAscii (after_day hour minute second)
clock_is_ascii hour minute second h m s =
    IsAscii-cons 84 (two_digits hour ++ after_hour minute second) (omega arith)
    (digits_are_ascii hour (after_hour minute second) h
    (IsAscii-cons 58 (two_digits minute ++ after_minute second) (omega arith)
    (digits_are_ascii minute (after_minute second) m
    (IsAscii-cons 58 (two_digits second ++ 90 ∷ []) (omega arith)
    (digits_are_ascii second (90 ∷ []) s (IsAscii-cons 90 [] (omega arith) IsAscii-nil))))))

date_is_ascii : (year month day : ℕ) (rest : List ℕ) → year < 10000 → month < 100 → day < 100 → IsAscii rest
    → IsAscii (two_digits (year / 100) ++ (two_digits (year % 100) ++ (45 ∷ (two_digits month
    ++ (45 ∷ (two_digits day ++ rest))))))
date_is_ascii year month day rest y m d ascii =
    let after_month = 45 ∷ (two_digits day ++ rest) in
    let after_year = 45 ∷ (two_digits month ++ after_month) in
    digits_are_ascii (year / 100) (two_digits (year % 100) ++ after_year) (omega arith)
    (digits_are_ascii (year % 100) after_year (omega arith)
    (IsAscii-cons 45 (two_digits month ++ after_month) (omega arith) (digits_are_ascii month after_month m
    (IsAscii-cons 45 (two_digits day ++ rest) (omega arith) (digits_are_ascii day rest d ascii)))))

is_ascii : (text : List ℕ) (second : ℕ) → IsTime text second → IsAscii text
is_ascii text second time =
    let date = time.date in
    let few = (days_in_month_bounds (pos time.year) time.month).0 in
    let clock = clock_is_ascii time.hour time.minute time.second_of_minute (omega (arith, time.time_of_day.0))
    (omega (arith, time.time_of_day.1)) (omega (arith, time.time_of_day.2)) in
    subst IsAscii (sym time.spelled)
    (date_is_ascii time.year time.month time.day (after_day time.hour time.minute time.second_of_minute)
    (omega (arith, ints, date.0.1)) (omega (arith, date.1.1)) (omega (arith, date.2.1, few)) clock)

pub time_of-odd : (text : List ℕ) → ¬ (IsUtf8 text) → None ≡ time_of text
time_of-odd text other =
    none_unless (time_of text) (λ second is. other (IsUtf8-from_ascii text
    (is_ascii text second (IsTime-time_of text second is))))

pub ruleset unsaid = (time_of-long, time_of-odd)
