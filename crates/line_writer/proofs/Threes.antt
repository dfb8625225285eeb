-- Digits three at a time, and the table of four.
use Rattle.line_writer.proofs.Common.{◌≡◌, ℕ, ◌+◌, ◌-◌, ◌*◌, ◌/◌, ◌%◌, ◌^◌, ◌<◌, ◌≤◌, List, [], ◌∷◌, ◌++◌, refl, ap, ◌∙◌, sym, length, get_or, inl, inr, arith, eq-zero-or-pos, append_assoc, length-append, replicate, decimal, decimal_digit, decimal_step, replicate-append-replicate, zero_padded}
use Rattle.line_writer.proofs.Tables.{agrees_at}
use Rattle.line_writer.specs.declared.decimal.TheConstants.{FOUR_DIGITS}

-- the byte at each place of the table
abbrev pub place : ℕ → ℕ
place i = 48 + i / 4 / 10 ^ (3 - i % 4) % 10

pub table_at : (k : ℕ) → k < 4000 → get_or FOUR_DIGITS k 0 ≡ place k
table_at k h = agrees_at place 0 FOUR_DIGITS k k tt h (omega arith)

-- the four digits of a number below a thousand
abbrev pub four : ℕ → List ℕ
four n = 48 ∷ (48 + n / 100) ∷ (48 + n / 10 % 10) ∷ (48 + n % 10) ∷ []

-- a digit of a number in the table
digit_in : (n i k : ℕ) → n < 1000 → k < 4 → i ≡ n * 4 + k → get_or FOUR_DIGITS i 0 ≡ 48 + n / 10 ^ (3 - k) % 10
digit_in n i k h few at =
    let a : i / 4 ≡ n = omega arith in
    let b : i % 4 ≡ k = omega arith in
    rw (table_at i (omega arith), a, b) refl

-- the bytes of a number in the table
pub four_at : (n : ℕ) → n < 1000 →
    get_or FOUR_DIGITS (n * 4) 0 ∷ get_or FOUR_DIGITS (n * 4 + 1) 0 ∷ get_or FOUR_DIGITS (n * 4 + 2) 0
    ∷ get_or FOUR_DIGITS (n * 4 + 3) 0 ∷ [] ≡ four n
four_at n h =
    let none : n / 1000 % 10 ≡ 0 = omega arith in
    let first : n / 100 % 10 ≡ n / 100 = omega arith in
    let last : n / 1 % 10 ≡ n % 10 = omega arith in
    rw (
      digit_in n (n * 4) 0 h (omega arith) (omega arith),
      digit_in n (n * 4 + 1) 1 h (omega arith) (omega arith),
      digit_in n (n * 4 + 2) 2 h (omega arith) (omega arith),
      digit_in n (n * 4 + 3) 3 h (omega arith) (omega arith),
      none,
      first,
      last,
    ) refl

pub one_more : (n : ℕ) → 10 ≤ n → n < 2 ^ 64 → length (decimal n) ≡ length (decimal (n / 10)) + 1
one_more n wide fits = ap length (decimal_step n wide fits) ∙ length-append (decimal (n / 10)) ((48 + n % 10) ∷ [])

-- one digit more of a padded number
padded_step : (w n : ℕ) → 2 ≤ w → n < 2 ^ 64 → zero_padded w n ≡ zero_padded (w - 1) (n / 10) ++ ((48 + n % 10) ∷ [])
padded_step w n long fits =
    elim (eq-zero-or-pos (n - 9)) [
      | inl z ↦
          let none : n / 10 ≡ 0 = omega arith in
          let all : n % 10 ≡ n = omega arith in
          rw (none, all, decimal_digit n (omega arith), decimal_digit 0 (omega arith))
          (ap (λ (k : ℕ). replicate {A = ℕ} k 48 ++ ((48 + n) ∷ [])) (omega arith)
          ∙ ap (λ (l : List ℕ). l ++ ((48 + n) ∷ [])) (sym (replicate-append-replicate {A = ℕ} (w - 1 - 1) 1 48)))
      | inr g ↦
          let more = one_more n (omega arith) fits in
          let same : w - length (decimal n) ≡ w - 1 - length (decimal (n / 10)) = omega arith in
          rw (same, decimal_step n (omega arith) fits, append_assoc) refl
    ]

padded_one : (n : ℕ) → n < 10 → zero_padded 1 n ≡ (48 + n) ∷ []
padded_one n h = rw (decimal_digit n h) refl

-- the three digits of a number below a thousand
abbrev pub three : ℕ → List ℕ
three n = (48 + n / 100) ∷ (48 + n / 10 % 10) ∷ (48 + n % 10) ∷ []

-- the last three digits of any number
last_three : (n : ℕ) → (48 + n / 10 / 10 % 10) ∷ (48 + n / 10 % 10) ∷ (48 + n % 10) ∷ [] ≡ three (n % 1000)
last_three n = grind arith

pub padded_three : (n : ℕ) → n < 1000 → zero_padded 3 n ≡ three n
padded_three n h = grind (arith, padded_step, padded_one)

pub padded_more : (w n : ℕ) → 4 ≤ w → n < 2 ^ 64 → zero_padded w n ≡ zero_padded (w - 3) (n / 1000) ++ three (n % 1000)
padded_more w n long fits =
    let a : n / 10 / 10 / 10 ≡ n / 1000 = omega arith in
    let v : w - 1 - 1 - 1 ≡ w - 3 = omega arith in
    let zeros = replicate {A = ℕ} (w - 3 - length (decimal (n / 1000))) 48 in
    rw (
      padded_step w n (omega arith) fits,
      padded_step (w - 1) (n / 10) (omega arith) (omega arith),
      padded_step (w - 1 - 1) (n / 10 / 10) (omega arith) (omega arith),
      a,
      v,
    ) (simp append_assoc (ap (λ (l : List ℕ). zeros ++ (decimal (n / 1000) ++ l)) (last_three n)))

pub padded_four : (n : ℕ) → n < 1000 → zero_padded 4 n ≡ four n
padded_four n h = grind (arith, padded_more, padded_one)

pub decimal_more : (n : ℕ) → 1000 ≤ n → n < 2 ^ 64 → decimal n ≡ decimal (n / 1000) ++ three (n % 1000)
decimal_more n wide fits =
    let a : n / 10 / 10 / 10 ≡ n / 1000 = omega arith in
    rw (
      decimal_step n (omega arith) fits,
      decimal_step (n / 10) (omega arith) (omega arith),
      decimal_step (n / 10 / 10) (omega arith) (omega arith),
      a,
    ) (simp append_assoc (ap (λ (l : List ℕ). decimal (n / 1000) ++ l) (last_three n)))

-- the last nine digits of a number, three at a time
last_nine : (n : ℕ) →
    zero_padded 9 (n % 10 ^ 9) ≡ (three (n / 1000 / 1000 % 1000) ++ three (n / 1000 % 1000)) ++ three (n % 1000)
last_nine n = grind (arith, padded_more, padded_three)

-- nine digits more
pub decimal_nine_more : (n : ℕ) → 10 ^ 9 ≤ n → n < 2 ^ 64 →
    decimal n ≡ decimal (n / 10 ^ 9) ++ zero_padded 9 (n % 10 ^ 9)
decimal_nine_more n wide fits = grind (arith, decimal_more, last_nine, append_assoc)

-- one piece written before another
pub joined : {v u zs : List ℕ} (xs ys t : List ℕ) → v ≡ xs ++ u → u ≡ ys ++ t → zs ≡ xs ++ ys → v ≡ zs ++ t
joined xs ys t e f g = rw (e, f, g, append_assoc) refl

pub one_digit : (n : ℕ) → n < 10 → length (decimal n) ≡ 1
one_digit n h = ap length (decimal_digit n h)

pub two_digits : (n : ℕ) → 10 ≤ n → n < 100 → length (decimal n) ≡ 2
two_digits n wide h = grind (arith, one_digit, one_more)

pub three_digits : (n : ℕ) → 100 ≤ n → n < 1000 → length (decimal n) ≡ 3
three_digits n wide h = grind (arith, two_digits, one_more)

-- how many digits a number below a thousand has
pub ruleset few_digits = (one_digit, two_digits, three_digits)

pub three_more : (n : ℕ) → 1000 ≤ n → n < 2 ^ 64 → length (decimal n) ≡ length (decimal (n / 1000)) + 3
three_more n wide fits = ap length (decimal_more n wide fits) ∙ length-append (decimal (n / 1000)) (three (n % 1000))

pub nine_more : (n : ℕ) → 10 ^ 9 ≤ n → n < 2 ^ 64 → length (decimal n) ≡ length (decimal (n / 10 ^ 9)) + 9
nine_more n wide fits = grind (arith, decimal_nine_more, last_nine, length-append)

-- the last digits of a number are written, and the others are still to be
pub written : {new all text : List ℕ} (rest last old : List ℕ) →
    new ≡ last ++ old → all ≡ rest ++ last → all ++ old ≡ text → rest ++ new ≡ text
written rest last old e f g = rw e (sym (append_assoc rest last old) ∙ ap (λ (l : List ℕ). l ++ old) (sym f) ∙ g)
