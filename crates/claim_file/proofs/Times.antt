-- The answers of the reader of times.
use Rattle.claim_file.proofs.Common.{◌+◌, nat_lt, negsuc, ◌*◌, ◌/◌, ◌%◌, ◌≤◌, ◌<◌, arith, ◌≡◌, ◌^◌, ℕ, ℤ, pos, List, Bool, true, false, ◌&&◌, Option, Some, None, if◌then◌else◌, option_and_then, refl, sym, ap, ◌∙◌, and_parts, leb-true, ltb-true, ints, days_in_month_bounds, bytes_eq-Decides, bytes_eq, IsCivilDate, days_in_month, IsTime, exists, spelling, unix_second, pair_value, date_time_at, in_u32, time_of, rules}
use Rattle.claim_file.specs.declared.time.DateTime.{DateTime}

-- a date and time that exist: the text is compared with their spelling
time_of-there : (text : List ℕ) (second : ℤ) (same : Bool) →
    Some second ≡ (if exists (date_time_at text) then Some (unix_second (date_time_at text)) else None) →
    same ≡ bytes_eq text (spelling (date_time_at text)) →
    (if same then in_u32 second else None) ≡ time_of text
time_of-there text second same found is =
    at (exists (date_time_at text)) found
  where
    at : (there : Bool) → Some second ≡ (if there then Some (unix_second (date_time_at text)) else None) →
        (if same then in_u32 second else None)
        ≡ (if there && bytes_eq text (spelling (date_time_at text)) then in_u32 (unix_second (date_time_at text))
        else None)
    at true e = ap (λ o. if same then option_and_then in_u32 o else None) e
        ∙ ap (λ b. if b then in_u32 (unix_second (date_time_at text)) else None) is
    at false e = cc

-- the same, step by step as it is read
pub time_of-read : {text bytes slice : List ℕ} {m : DateTime} {second : ℤ} {found : Option ℤ} (same : Bool) →
    bytes ≡ text → m ≡ date_time_at bytes →
    found ≡ (if exists m then Some (unix_second m) else None) → found ≡ Some second →
    slice ≡ spelling m → same ≡ bytes_eq bytes slice →
    (if same then in_u32 second else None) ≡ time_of text
time_of-read {text} {bytes} {slice} {m} {second} {found} same known at unix is spelled test =
    let there : Some second ≡ (if exists (date_time_at bytes) then Some (unix_second (date_time_at bytes)) else None) =
    sym is ∙ unix ∙ ap (λ (v : DateTime). if exists v then Some (unix_second v) else None) at in
    let written : same ≡ bytes_eq bytes (spelling (date_time_at bytes)) =
    test ∙ ap (bytes_eq bytes) (spelled ∙ ap spelling at) in
    time_of-there bytes second same there written ∙ ap time_of known

-- a second was found, so the date and time exist
pub found_there : (there : Bool) (known : ℤ) (found : Option ℤ) {second : ℤ} →
    found ≡ (if there then Some known else None) → found ≡ Some second → there ≡ true
found_there there known found unix is = grind arith

found_none : (there : Bool) (known : ℤ) (found : Option ℤ) →
    found ≡ (if there then Some known else None) → found ≡ None → there ≡ false
found_none there known found unix is = grind arith

-- a date and time that doesn't exist: the text says no second
pub time_of-missing : {text bytes : List ℕ} {m : DateTime} {found : Option ℤ} {answer : Option ℕ} →
    bytes ≡ text → m ≡ date_time_at bytes →
    found ≡ (if exists m then Some (unix_second m) else None) → found ≡ None → answer ≡ None → answer ≡ time_of text
time_of-missing {text} {bytes} {m} {found} {answer} known at unix is none =
    let gone : exists m ≡ false = found_none (exists m) (unix_second m) found unix is in
    let here : exists (date_time_at text) ≡ false = ap exists (sym (at ∙ ap date_time_at known)) ∙ gone in
    none ∙ sym (ap (λ b. if b && bytes_eq text (spelling (date_time_at text))
    then in_u32 (unix_second (date_time_at text)) else None) here)

-- the digits of a number below 100, read again
pair_value-digits : (n : ℕ) → n < 100 → pair_value (48 + n / 10) (48 + n % 10) ≡ n
pair_value-digits n small = omega arith

-- a date and time that exist, by their parts
exists_parts : (m : DateTime) → exists m ≡ true →
    IsCivilDate (pos m.year) m.month m.day × (m.hour < 24) × (m.minute < 60) × (m.second < 60)
exists_parts m there =
    let (e3, second) = and_parts _ _ there in
    let (e2, minute) = and_parts _ _ e3 in
    let (date, hour) = and_parts _ _ e2 in
    let (d4, last_day) = and_parts _ _ date in
    let (d3, first_day) = and_parts _ _ d4 in
    let (d2, last_month) = and_parts _ _ d3 in
    let (year, first_month) = and_parts _ _ d2 in
    let y : m.year < 10000 = ltb-true _ _ year in (
      (
        (omega (arith, ints), omega (arith, ints, y)),
        (leb-true _ _ first_month, leb-true _ _ last_month),
        (leb-true _ _ first_day, leb-true _ _ last_day),
      ),
      ltb-true _ _ hour,
      ltb-true _ _ minute,
      ltb-true _ _ second,
    )

-- a date and time that exist have numbers of as many digits as are written
pub small_parts : (m : DateTime) → exists m ≡ true →
    (m.year < 10000) × (m.month < 100) × (m.day < 100) × (m.hour < 100) × (m.minute < 100) × (m.second < 100)
small_parts m there =
    let (date, h, mi, s) = exists_parts m there in
    let y = date.0.1 in
    let mo = date.1.1 in
    let d = date.2.1 in
    let few : days_in_month (pos m.year) m.month ≤ 31 = (days_in_month_bounds (pos m.year) m.month).0 in
    (omega (arith, ints, y), omega arith, omega arith, omega arith, omega arith, omega arith)

-- what was written is read again
pub date_time_at-spelling : (m : DateTime) → exists m ≡ true → date_time_at (spelling m) ≡ m
date_time_at-spelling m there =
    let (y, mo, d, h, mi, s) = small_parts m there in
    λ i. record {
      year = year_again m.year y i;
      month = pair_value-digits m.month mo i;
      day = pair_value-digits m.day d i;
      hour = pair_value-digits m.hour h i;
      minute = pair_value-digits m.minute mi i;
      second = pair_value-digits m.second s i;
    }
  where
    year_again : (y : ℕ) → y < 10000 →
        pair_value (48 + y / 100 / 10) (48 + y / 100 % 10) * 100
        + pair_value (48 + y % 100 / 10) (48 + y % 100 % 10) ≡ y
    year_again y small = omega arith

-- what the two tests and the range say together
said : (there same : Bool) (z : ℤ) (second : ℕ) → there ≡ true → same ≡ true → z ≡ pos second → second < 2 ^ 32 →
    (if there && same then in_u32 z else None) ≡ Some second
said there same z second t e counted small = search rules

pub record IsSaid (there same : Bool) (z : ℤ) (second : ℕ) : Type 0 where
  pub is_there : there ≡ true
  pub is_same : same ≡ true
  pub counted : z ≡ pos second
  pub small : second < 2 ^ 32

in_u32-some : (z : ℤ) (second : ℕ) → in_u32 z ≡ Some second → (z ≡ pos second) × (second < 2 ^ 32)
in_u32-some (pos n) second e = at (nat_lt n (2 ^ 32)) refl e
  where
    at : (b : Bool) → nat_lt n (2 ^ 32) ≡ b → (if b then Some n else None) ≡ Some second →
        (pos n ≡ pos second) × (second < 2 ^ 32)
    at true t h =
        let same : n ≡ second = cc in
        let less : n < 2 ^ 32 = ltb-true n (2 ^ 32) t in
        (ap pos same, omega arith)
    at false t h = cc
in_u32-some (negsuc n) second e = cc

unsaid : (there same : Bool) (z : ℤ) (second : ℕ) → (if there && same then in_u32 z else None) ≡ Some second →
    IsSaid there same z second
unsaid true true z second e =
    let (counted, small) = in_u32-some z second e in
    record { is_there = refl; is_same = refl; counted = counted; small = small }
unsaid true false z second e = cc
unsaid false same z second e = cc

-- ---- dates and times by their parts

-- a date and time exist if the calendar has the day, and the day the time
exists_from : (m : DateTime) → IsCivilDate (pos m.year) m.month m.day → m.hour < 24 → m.minute < 60 → m.second < 60 →
    exists m ≡ true
exists_from m date hour minute second = search rules

-- a text that writes a date and time says their second
pub time_of-IsTime : (text : List ℕ) (second : ℕ) → IsTime text second → time_of text ≡ Some second
time_of-IsTime text second time =
    let m : DateTime = record {
      year = time.year;
      month = time.month;
      day = time.day;
      hour = time.hour;
      minute = time.minute;
      second = time.second_of_minute;
    } in
    let there = exists_from m time.date time.time_of_day.0 time.time_of_day.1 time.time_of_day.2 in
    let same : date_time_at text ≡ m = ap date_time_at time.spelled ∙ date_time_at-spelling m there in
    said _ _ _ second (ap exists same ∙ there)
    ((bytes_eq-Decides text (spelling (date_time_at text))).1 (time.spelled ∙ ap spelling (sym same)))
    (ap unix_second same ∙ time.counted) time.in_range

-- a text that says a second writes a date and time
pub IsTime-time_of : (text : List ℕ) (second : ℕ) → time_of text ≡ Some second → IsTime text second
IsTime-time_of text second says =
    let m = date_time_at text in
    let parts = unsaid (exists m) (bytes_eq text (spelling m)) (unix_second m) second says in
    let (date, hour, minute, second') = exists_parts m parts.is_there in
    record {
      year = m.year;
      month = m.month;
      day = m.day;
      hour = m.hour;
      minute = m.minute;
      second_of_minute = m.second;
      date = date;
      time_of_day = (hour, minute, second');
      spelled = (bytes_eq-Decides text (spelling m)).0 parts.is_same;
      counted = parts.counted;
      in_range = parts.small;
    }
