-- The numbers of the elements that pass a test, and the elements that stand under them.
use Rattle.feasibility.proofs.Common.{rules, ◌≡◌, ℕ, zero, suc, ◌+◌, ◌<◌, ◌≤◌, ⊎_elim, Bool, true, false, List, [], ◌∷◌, Some, slice_get, ap, ◌∙◌, arith, filter, cond-true, cond-false, cases_lt, numbers_from, by_test, ints, nat_tests}

pub one_there : {X : Type 0} (xs : List X) (i j : ℕ) (x y : X) → slice_get xs i ≡ Some x → slice_get xs j ≡ Some y
    → i ≡ j → x ≡ y
one_there xs i j x y at_x at_y same = grind arith

further : (k i : ℕ) → (k + 1) + i ≡ k + suc i
further k i = omega arith

here : (k : ℕ) → k ≡ k + 0
here k = omega arith

module _ {X : Type 0} (p : X → Bool) where
  pub kept : (y : X) (ys : List X) → p y ≡ true → filter p (y ∷ ys) ≡ y ∷ filter p ys
  kept y ys first = cond-true (p y) (y ∷ filter p ys) (filter p ys) first

  pub left_out : (y : X) (ys : List X) → p y ≡ false → filter p (y ∷ ys) ≡ filter p ys
  left_out y ys first = cond-false (p y) (y ∷ filter p ys) (filter p ys) first

  pub counted : (k : ℕ) (y : X) (ys : List X) → p y ≡ true → numbers_from p k (y ∷ ys) ≡ k ∷ numbers_from p (k + 1) ys
  counted k y ys first = cond-true (p y) (k ∷ numbers_from p (k + 1) ys) (numbers_from p (k + 1) ys) first

  pub not_counted : (k : ℕ) (y : X) (ys : List X) → p y ≡ false → numbers_from p k (y ∷ ys) ≡ numbers_from p (k + 1) ys
  not_counted k y ys first = cond-false (p y) (k ∷ numbers_from p (k + 1) ys) (numbers_from p (k + 1) ys) first

  -- each that passes stands at the place of its number
  pub placed : (k : ℕ) (xs : List X) (i : ℕ) (x : X) → slice_get xs i ≡ Some x → p x ≡ true
      → (j : ℕ) × (slice_get (filter p xs) j ≡ Some x) × (slice_get (numbers_from p k xs) j ≡ Some (k + i))
  placed k [] i x at passes = absurd cc
  placed k (y ∷ ys) zero x at passes = grind (arith, ints, nat_tests, here)
  placed k (y ∷ ys) (suc i) x at passes =
      let (j, stands, number) = placed (k + 1) ys i x at passes in
      let is = number ∙ ap Some (further k i) in
      by_test (p y) (λ first. (suc j, rw first stands, rw first is)) (λ first. (j, rw first stands, rw first is))

  -- what stands at a place passes, and its number stands there
  pub record Found (k : ℕ) (xs : List X) (j : ℕ) (x : X) : Type 0 where
    pub number : ℕ
    pub stands : slice_get xs number ≡ Some x
    pub is : slice_get (numbers_from p k xs) j ≡ Some (k + number)
    pub passes : p x ≡ true

  found_further : (k : ℕ) (y : X) (ys : List X) (j : ℕ) (x : X) → p y ≡ true → Found (k + 1) ys j x
      → Found k (y ∷ ys) (suc j) x
  found_further k y ys j x first later = record {
    number = suc later.number;
    stands = later.stands;
    is = rw first (later.is ∙ ap Some (further k later.number));
    passes = later.passes;
  }

  found_behind : (k : ℕ) (y : X) (ys : List X) (j : ℕ) (x : X) → p y ≡ false → Found (k + 1) ys j x
      → Found k (y ∷ ys) j x
  found_behind k y ys j x first later = record {
    number = suc later.number;
    stands = later.stands;
    is = rw first (later.is ∙ ap Some (further k later.number));
    passes = later.passes;
  }

  found_here : (k : ℕ) (y : X) (ys : List X) (x : X) → p y ≡ true → y ≡ x → Found k (y ∷ ys) zero x
  found_here k y ys x first same = search rules

  pub found : (k : ℕ) (xs : List X) (j : ℕ) (x : X) → slice_get (filter p xs) j ≡ Some x → Found k xs j x
  found k [] j x is = absurd cc
  found k (y ∷ ys) zero x is = by_test (p y)
      (λ first. let at : Some y ≡ Some x = rw first at is in found_here k y ys x first cc)
      (λ first. found_behind k y ys zero x first (found (k + 1) ys zero x (rw first at is)))
  found k (y ∷ ys) (suc j) x is = by_test (p y)
      (λ first. found_further k y ys j x first (found (k + 1) ys j x (rw first at is)))
      (λ first. found_behind k y ys (suc j) x first (found (k + 1) ys (suc j) x (rw first at is)))

  at_least : (k : ℕ) (xs : List X) (i n : ℕ) → slice_get (numbers_from p k xs) i ≡ Some n → k ≤ n
  at_least k [] i n is = absurd cc
  at_least k (y ∷ ys) zero n is = by_test (p y) (λ first. grind (arith, rw first at is))
      (λ first. grind (arith, at_least (k + 1) ys zero n))
  at_least k (y ∷ ys) (suc i) n is = grind (arith, at_least (k + 1) ys i n, at_least (k + 1) ys (suc i) n)

  pub rising : (k : ℕ) (xs : List X) (i j n m : ℕ) → slice_get (numbers_from p k xs) i ≡ Some n
      → slice_get (numbers_from p k xs) j ≡ Some m → i < j → n < m
  rising k [] i j n m is_n is_m lt = absurd cc
  rising k (y ∷ ys) i zero n m is_n is_m lt = absurd (omega arith)
  rising k (y ∷ ys) zero (suc j) n m is_n is_m lt =
      grind (arith, at_least (k + 1) ys j m, rising (k + 1) ys zero (suc j) n m)
  rising k (y ∷ ys) (suc i) (suc j) n m is_n is_m lt =
      grind (arith, rising (k + 1) ys i j n m, rising (k + 1) ys (suc i) (suc j) n m)

  pub no_less : (xs : List X) (i j n m : ℕ) → slice_get (numbers_from p 0 xs) i ≡ Some n
      → slice_get (numbers_from p 0 xs) j ≡ Some m → i ≤ j → n ≤ m
  no_less xs i j n m is_n is_m le = ⊎_elim
      (λ (lt : i < j). let less = rising 0 xs i j n m is_n is_m lt in omega (arith, less))
      (λ (ge : j ≤ i).
      let same = one_there (numbers_from p 0 xs) i j n m is_n is_m (omega arith) in omega (arith, same))
      (cases_lt i j)
