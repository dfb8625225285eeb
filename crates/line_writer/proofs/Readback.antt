-- What is shown for a person reads back as the number.
use Rattle.line_writer.proofs.Common.{◌≡◌, ◌∙◌, ℕ, zero, suc, ℤ, pos, negsuc, ◌+◌, ◌-◌, ◌*◌, ◌/◌, ◌%◌, ◌^◌, ◌<◌, ◌≤◌, Bool, true, false, ◌==◌, List, [], ◌∷◌, ◌++◌, length, get_or, take, drop, refl, ap, subst, arith, nat_lt, neg_ℤ, unsigned_abs, append_assoc, length-append, codes, replicate, slice_index, Some, decimal, list_all, prefix_len, and_parts, nat_tests, decimal_digit, decimal_is_IsNumeral_wide, decimal_by_steps_wide, length-decimal-le_wide, length-replicate, get_or_append_left, take-append_seam, drop-append_seam, drop-append-add, get_or-append_seam, ceiling_of, floor_of, signed_arith, clock_text, two_digits, four_digits, day_number, year_of, month_of, day_of, hour_of, minute_of, second_of, time_text, longer, milliseconds, nanosecond_above, nanosecond_below, shorter, signed_milliseconds, are_digits, is_clock, is_whole, read_whole, read_decimal, read_part, read_signed, SaysMoment, SaysSecond, moment_text, part_text, are_zero, is_printable, millionths, zero_padded, reference_text}
use Rattle.std.specs.Char.{is_digit, digit_value}
use Rattle.std.specs.Str.Parse.{AllDigits, digits_value, digits_value_after}
use Rattle.std.proofs.lemmas.Str.{digit_value_digit}
use Rattle.std.proofs.lemmas.Str.Parse.{digit_from_value}
use Rattle.line_writer.proofs.Calendar.{times}

-- digits alone
all_digits : (ds : List ℕ) → AllDigits 10 ds → list_all (λ byte. is_digit byte 10) ds ≡ true
all_digits [] h = refl
all_digits (c ∷ cs) h = grind (arith, all_digits cs h.1)

are_digits_from : (ds : List ℕ) → 0 < length ds → list_all (λ byte. is_digit byte 10) ds ≡ true → are_digits ds ≡ true
are_digits_from ds some all = grind (arith, nat_lt)

first_wide : (n : ℕ) → n < 10 ^ 64 → 0 < n → 48 < get_or (decimal n) 0 0
first_wide n small =
    (decimal_by_steps_wide (λ m ds. (0 < length ds) × (0 < m → 48 < get_or ds 0 0))
    (λ m l. (omega arith, λ a. omega arith))
    (λ m ds l h. (
      omega (arith, length-append ds ((48 + m % 10) ∷ [])),
      λ a. omega (arith, get_or_append_left ds ((48 + m % 10) ∷ []) 0 0 h.0, h.1 (omega arith)),
    )) n small).1

-- a number is written without a zero before other digits
whole_decimal : (n : ℕ) → n < 10 ^ 64 → is_whole (decimal n) ≡ true
whole_decimal zero small = rw (decimal_digit 0 (omega arith)) refl
whole_decimal (suc n) small = grind (arith, decimal_is_IsNumeral_wide, are_digits_from, all_digits, first_wide, Bool)

pub whole_back : (n : ℕ) → n < 10 ^ 64 → read_whole (decimal n) ≡ Some n
whole_back n small = grind (arith, whole_decimal, decimal_is_IsNumeral_wide)

-- zeros before digits are digits, and change no value
zeros_digits : (k : ℕ) (ds : List ℕ) → list_all (λ byte. is_digit byte 10) ds ≡ true →
    list_all (λ byte. is_digit byte 10) (replicate k 48 ++ ds) ≡ true
zeros_digits zero ds h = h
zeros_digits (suc k) ds h = zeros_digits k ds h

zeros_value : (k : ℕ) (ds : List ℕ) → digits_value_after 10 0 (replicate k 48 ++ ds) ≡ digits_value_after 10 0 ds
zeros_value zero ds = refl
zeros_value (suc k) ds = zeros_value k ds

padded_length : (w n : ℕ) → 0 < w → n < 10 ^ w → n < 10 ^ 64 → length (zero_padded w n) ≡ w
padded_length w n some fits small =
    omega (
      arith,
      length-append (replicate {A = ℕ} (w - length (decimal n)) 48) (decimal n),
      length-replicate {A = ℕ} (w - length (decimal n)) 48,
      length-decimal-le_wide w n some fits small,
    )

padded_digits : (w n : ℕ) → 0 < w → n < 10 ^ w → n < 10 ^ 64 → are_digits (zero_padded w n) ≡ true
padded_digits w n some fits small =
    grind (arith, are_digits_from, padded_length, zeros_digits, all_digits, decimal_is_IsNumeral_wide)

padded_value : (w n : ℕ) → n < 10 ^ 64 → digits_value 10 (zero_padded w n) ≡ n
padded_value w n small = zeros_value (w - length (decimal n)) (decimal n) ∙ (decimal_is_IsNumeral_wide n small).1

-- digits, a point, and digits
read_at : (places point : ℕ) (text whole part : List ℕ) → length text - places - 1 ≡ point →
    take point text ≡ whole → slice_index text point ≡ 46 → drop (point + 1) text ≡ part →
    is_whole whole ≡ true → are_digits part ≡ true →
    read_decimal places text ≡ Some (digits_value 10 whole * 10 ^ places + digits_value 10 part)
read_at places point text whole part at front sign behind whole_is part_is = grind arith

joined : (places : ℕ) (whole part : List ℕ) → is_whole whole ≡ true → are_digits part ≡ true →
    length part ≡ places →
    read_decimal places (whole ++ codes "." ++ part)
    ≡ Some (digits_value 10 whole * 10 ^ places + digits_value 10 part)
joined places whole part whole_is part_is long =
    rw (append_assoc whole (codes ".") part)
    (read_at places (length whole) (whole ++ 46 ∷ part) whole part (omega (arith, length-append whole (46 ∷ part)))
    (take-append_seam whole (46 ∷ part)) (get_or-append_seam whole 46 part 0) (drop-append-add whole (46 ∷ part) 1)
    whole_is part_is)

decimal_parts : (places a b : ℕ) → 0 < places → a < 10 ^ 64 → b < 10 ^ places → b < 10 ^ 64 →
    read_decimal places (decimal a ++ codes "." ++ zero_padded places b) ≡ Some (a * 10 ^ places + b)
decimal_parts places a b some small fits small_too =
    grind (arith, joined, whole_decimal, padded_digits, padded_length, decimal_is_IsNumeral_wide, padded_value)

pub milliseconds_back : (n : ℕ) → n < 10 ^ 64 → read_decimal 6 (milliseconds n) ≡ Some n
milliseconds_back n small = grind (arith, decimal_parts)

pub millionths_back : (n : ℕ) → n < 10 ^ 64 → read_decimal 3 (millionths n) ≡ Some n
millionths_back n small = grind (arith, decimal_parts)

-- digits begin with no sign
no_sign : (ds rest : List ℕ) → 0 < length ds → AllDigits 10 ds → (slice_index (ds ++ rest) 0 == 45) ≡ false
no_sign [] rest some all = absurd (omega arith)
no_sign (c ∷ cs) rest some all = grind (arith, nat_tests, digit_from_value c all.0)

pub signed_back : (z : ℤ) → unsigned_abs z < 10 ^ 64 → read_signed 6 (signed_milliseconds z) ≡ Some z
signed_back (pos n) small = grind (arith, decimal_is_IsNumeral_wide, append_assoc, no_sign, milliseconds_back)
signed_back (negsuc n) small = grind (arith, milliseconds_back)

-- so many ticks have no more nanoseconds
few_below : (ticks : ℕ) → shorter ticks ≤ ticks
unfolding floor_of
few_below ticks = omega arith

few_above : (ticks : ℕ) → longer ticks ≤ ticks + 1
unfolding floor_of ceiling_of
few_above ticks = omega arith

-- a whole number below zero
opposite : (n : ℕ) → n < 10 ^ 64 → unsigned_abs (neg_ℤ (pos n)) < 10 ^ 64
opposite zero small = small
opposite (suc n) small = small

pub low_back : (tick : ℤ) → unsigned_abs tick < 2 ^ 128 →
    read_signed 6 (signed_milliseconds (nanosecond_below tick)) ≡ Some (nanosecond_below tick)
low_back (pos n) h = signed_back (pos (shorter n)) (omega (arith, few_below n))
low_back (negsuc n) h = signed_back (neg_ℤ (pos (longer (suc n)))) (opposite _ (omega (arith, few_above (suc n))))

pub high_back : (tick : ℤ) → unsigned_abs tick < 2 ^ 128 →
    read_signed 6 (signed_milliseconds (nanosecond_above tick)) ≡ Some (nanosecond_above tick)
high_back (pos n) h = signed_back (pos (longer n)) (omega (arith, few_above n))
high_back (negsuc n) h = signed_back (neg_ℤ (pos (shorter (suc n)))) (opposite _ (omega (arith, few_below (suc n))))

-- digits of a date
digit : (d : ℕ) → d < 10 → digit_value (48 + d) ≡ d
digit d h = omega (arith, digit_value_digit (48 + d) (omega arith, omega arith))

tells : (d : ℕ) → d < 10 → is_digit (48 + d) 10 ≡ true
tells d h = grind (arith, nat_tests, digit d h)

two_are : (n : ℕ) → n < 100 → are_digits (two_digits n) ≡ true
two_are n h = rw (tells (n / 10) (omega arith), tells (n % 10) (omega arith)) refl

two_value : (n : ℕ) → n < 100 → digits_value 10 (two_digits n) ≡ n
two_value n h = omega (arith, digit (n / 10) (omega arith), digit (n % 10) (omega arith))

four_are : (n : ℕ) → n < 10000 → are_digits (four_digits n) ≡ true
four_are n h = grind (arith, tells)

four_value : (n : ℕ) → n < 10000 → digits_value 10 (four_digits n) ≡ n
four_value n h =
    omega (
      arith,
      digit (n / 100 / 10) (omega arith),
      digit (n / 100 % 10) (omega arith),
      digit (n % 100 / 10) (omega arith),
      digit (n % 100 % 10) (omega arith),
    )

-- a date and a time of day
abbrev clock : (year month day hour minute second : ℕ) → List ℕ
clock year month day hour minute second =
    (four_digits year ++ codes "-" ++ two_digits month ++ codes "-" ++ two_digits day) ++ codes "T"
    ++ two_digits hour ++ codes ":" ++ two_digits minute ++ codes ":" ++ two_digits second

clock_is : (y m d h n s : ℕ) → y < 10000 → m < 100 → d < 100 → h < 100 → n < 100 → s < 100 →
    is_clock (clock y m d h n s) ≡ true
clock_is y m d h n s a b e f g i = grind (arith, four_are, two_are)

-- a second of a day of the calendar
second_says : (second : ℕ) → second < 2 ^ 32 → SaysSecond (clock_text second) second
second_says second small =
    let is = times second small in
    let day = day_number second in
    let y = year_of day in
    let m = month_of day in
    let d = day_of day in
    let year : y < 10000 = omega (arith, signed_arith, is.date.civil.0) in
    let a : digits_value 10 (four_digits y) ≡ y = four_value y year in
    let b : digits_value 10 (two_digits m) ≡ m = two_value m (omega (arith, is.date.civil.1)) in
    let e : digits_value 10 (two_digits d) ≡ d = two_value d (omega arith) in
    let f : digits_value 10 (two_digits (hour_of second)) ≡ hour_of second = two_value _ (omega arith) in
    let g : digits_value 10 (two_digits (minute_of second)) ≡ minute_of second = two_value _ (omega arith) in
    let i : digits_value 10 (two_digits (second_of second)) ≡ second_of second = two_value _ (omega arith) in
    record {
      spelled = clock_is y m d (hour_of second) (minute_of second) (second_of second) year (omega (arith, is.date.civil.1))
          (omega arith) (omega arith) (omega arith) (omega arith);
      date = rw (a, b, e) is.date.civil;
      hour = rw f is.hour;
      minute = rw g is.minute;
      second_below = rw i is.second_below;
      counted = rw (a, b, e, f, g, i, is.date.counted) (ap pos (omega (arith, is.counted)));
    }

-- nine digits behind a point
part_says : (ds : List ℕ) → length ds ≡ 9 → are_digits ds ≡ true →
    read_part (46 ∷ (ds ++ (90 ∷ []))) ≡ Some (digits_value 10 ds)
part_says ds long digits =
    let whole : length (ds ++ (90 ∷ [])) ≡ 10 = omega (arith, length-append ds (90 ∷ [])) in
    let test : (length (46 ∷ (ds ++ (90 ∷ []))) == 11) ≡ true = grind (arith, nat_tests) in
    let front : take 9 (ds ++ (90 ∷ [])) ≡ ds =
    subst (λ k. take k (ds ++ (90 ∷ [])) ≡ ds) long (take-append_seam ds (90 ∷ [])) in
    let last : get_or (ds ++ (90 ∷ [])) 9 0 ≡ 90 =
    subst (λ k. get_or (ds ++ (90 ∷ [])) k 0 ≡ 90) long (get_or-append_seam ds 90 [] 0) in
    rw (test, front, digits, last) refl

part_back : (part : ℕ) → part < 10 ^ 9 → read_part (part_text part ++ codes "Z") ≡ Some part
part_back zero h = refl
part_back (suc n) h = grind (arith, part_says, padded_length, padded_digits, padded_value)

pub second_back : (second : ℕ) → second < 2 ^ 32 → SaysMoment (time_text second) second 0
second_back second h = record { clock = second_says second h; rest = refl }

pub moment_back : (n : ℕ) → n / 1000000000 < 2 ^ 32 → SaysMoment (moment_text n) (n / 1000000000) (n % 1000000000)
moment_back n h =
    rw (append_assoc (clock_text (n / 1000000000)) (part_text (n % 1000000000)) (codes "Z"))
    (record { clock = second_says (n / 1000000000) h; rest = part_back (n % 1000000000) (omega arith) })

-- a name and the zero bytes behind it
name_length : (name : List ℕ) (k : ℕ) → list_all is_printable name ≡ true →
    prefix_len is_printable (name ++ replicate k 0) ≡ length name
name_length [] zero h = refl
name_length [] (suc k) h = refl
name_length (c ∷ cs) k h =
    let parts = and_parts (is_printable c) (list_all is_printable cs) h in
    let first : is_printable c ≡ true = parts.0 in
    let more = name_length cs k parts.1 in
    rw (first, more) (omega arith)

zeros_are : (k : ℕ) → are_zero (replicate k 0) ≡ true
zeros_are zero = refl
zeros_are (suc k) = zeros_are k

pub name_back : (name : List ℕ) (k : ℕ) → 1 ≤ length name → list_all is_printable name ≡ true →
    reference_text (name ++ replicate k 0) ≡ name
name_back name k some printable = grind (arith, name_length, nat_lt, drop-append_seam, take-append_seam, zeros_are)
