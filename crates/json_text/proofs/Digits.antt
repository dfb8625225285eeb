-- What digits alone write as a number of JSON.
use Rattle.std.proofs.lemmas.Bool.Decides.{nat_tests}
use Rattle.std.proofs.lemmas.Int.{ints}
use Rattle.json_text.proofs.Common.{◌≡◌, ℕ, ◌^◌, ◌<◌, List, [], ◌∷◌, ◌++◌, length, drop, get_or, true, false, Some, refl, sym, ap, ◌∙◌, arith, append-nil, lt-ltb, ne_eqb, AllDigits, IsNumeral, digits_value, digits_value_after, Parts, digits_of, IsWellFormed, unsigned, number_of, number_from, is_integer}
use Rattle.fast_float.proofs.Writing.{scan-text_of}

no_minus : (ds rest : List ℕ) → AllDigits 10 ds → 0 < length ds → get_or (ds ++ rest) 0 0 ≡ 45 → ⊥
no_minus [] rest digits some is = omega arith
no_minus (d ∷ ds) rest digits some is = grind (arith, ints, nat_tests)

abbrev whole : List ℕ → Parts
whole ds = record {
  whole = ds;
  point = false;
  fraction = [];
  exponent_negative = false;
  exponent = [];
  len = length (ds ++ []);
}

of_parts : (ds : List ℕ) → IsNumeral 10 ds → number_of (ds ++ []) ≡ number_from false (whole ds)
unfolding number_of
of_parts ds (some, digits) =
    let formed : IsWellFormed (whole ds) = record {
      whole_digits = digits;
      fraction_digits = tt;
      exponent_digits = tt;
      no_point = λ _. refl;
      no_exponent = λ _. refl;
      len_is = refl;
    } in
    rw (ne_eqb (get_or (ds ++ []) 0 0) 45 (no_minus ds [] digits some))
    (ap (number_from false) (scan-text_of (whole ds) formed))

pub number_of-digits : (ds : List ℕ) → IsNumeral 10 ds → digits_value 10 ds < 2 ^ 64 →
    number_of ds ≡ Some (unsigned (digits_value 10 ds))
number_of-digits ds numeral fits =
    let integer : is_integer (whole ds) ≡ true = rw (lt-ltb 0 (length ds) numeral.0) refl in
    let value : digits_of (whole ds) ≡ digits_value 10 ds = ap (digits_value 10) (append-nil ds) in
    ap number_of (sym (append-nil ds)) ∙ of_parts ds numeral
    ∙ rw (integer, value) (rw (lt-ltb (digits_value 10 ds) (2 ^ 64) fits) refl)

-- the digits before this place write this number, and the others are left
pub record IsLeft (bytes : List ℕ) (at n : ℕ) : Type 0 where
  pub digits : AllDigits 10 (drop at bytes) → AllDigits 10 bytes
  pub value : digits_value_after 10 n (drop at bytes) ≡ digits_value 10 bytes
