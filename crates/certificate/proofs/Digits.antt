-- A number in decimal, a digit more at a time.
use Rattle.std.proofs.lemmas.Int.{ints}
use Rattle.certificate.proofs.Common.{◌≡◌, ℕ, ◌+◌, ◌*◌, ◌^◌, ◌<◌, List, [], ◌∷◌, ◌++◌, arith, sym, ap, ◌∙◌, append_assoc, decimal_digit, decimal_step, nat_tests}
use Rattle.std.proofs.lemmas.Nat.{div-mul-add}
use Rattle.std.specs.Fmt.{decimal}

-- the first digit is read
pub first_digit : (text more : List ℕ) (n digit : ℕ) → n ≡ digit → digit < 10 → text ≡ (48 + digit) ∷ more →
    text ≡ decimal n ++ more
first_digit text more n digit same small read = grind (arith, ints, nat_tests, decimal_digit)

digit_more : (n digit : ℕ) → 0 < n → digit < 10 → n * 10 + digit < 2 ^ 64 →
    decimal (n * 10 + digit) ≡ decimal n ++ (48 + digit) ∷ []
digit_more n digit some small fits = grind (arith, ints, nat_tests, decimal_step, div-mul-add)

-- the digits before this one, and what follows them
pub record IsRead (text rest : List ℕ) (n : ℕ) : Type 0 where
  pub read : text ≡ decimal n ++ rest
  pub some : 0 < n

-- a digit more is read
pub next_digit : (text rest more : List ℕ) (n digit : ℕ) → IsRead text rest n → rest ≡ (48 + digit) ∷ more →
    (digit < 10) × (n * 10 + digit < 2 ^ 64) → IsRead text more (n * 10 + digit)
next_digit text rest more n digit before next (small, fits) = record {
  read = before.read ∙ ap (λ l. decimal n ++ l) next ∙ sym (append_assoc (decimal n) ((48 + digit) ∷ []) more)
      ∙ ap (λ l. l ++ more) (sym (digit_more n digit before.some small fits));
  some = omega (arith, before.some);
}
