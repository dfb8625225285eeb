-- How what a low mark asks for changes from one reading to another: over plain numbers.
--
-- Before its place it rises by k for each tick, and after it falls by m. Of several such numbers the
-- greatest does so too.
use Rattle.feasibility.proofs.Common.{◌≡◌, ℕ, ◌+◌, ◌*◌, ◌<◌, ◌≤◌, ℤ, pos, ◌+ℤ◌, ◌-ℤ◌, ◌≤ℤ◌, ◌<ℤ◌, unsigned_abs, cond, List, [], ◌∷◌, refl, arith, int_le, fold, int_max, ints, by_lt_z}

-- the second number is at most so far above the first, and at most so far below
pub record Changes (rise fall : ℕ) (a b : ℤ) : Type 0 where
  pub up : b ≤ℤ (a +ℤ pos rise)
  pub down : a ≤ℤ (b +ℤ pos fall)

-- ---- the greater of two

pub Changes-greater : (rise fall : ℕ) (a b a' b' : ℤ) → Changes rise fall a b → Changes rise fall a' b'
    → Changes rise fall (int_max a a') (int_max b b')
Changes-greater rise fall a b a' b' first second = grind (arith, ints)

module _ {X : Type 0} (rise fall : ℕ) (f g : X → ℤ) (each : (x : X) → Changes rise fall (f x) (g x)) where
  pub Changes-greatest : (a b : ℤ) (xs : List X) → Changes rise fall a b
      → Changes rise fall (fold (λ c x. int_max c (f x)) a xs) (fold (λ c x. int_max c (g x)) b xs)
  Changes-greatest a b [] so_far = so_far
  Changes-greatest a b (x ∷ xs) so_far =
      Changes-greatest (int_max a (f x)) (int_max b (g x)) xs
      (Changes-greater rise fall a b (f x) (g x) so_far (each x))

-- ---- one mark, whose height is h and whose place u, at the readings c and d further on

module _ (k m : ℕ) (less : k ≤ m) (h u c : ℤ) (d : ℕ) where
  -- both at the place or before, the second x before
  both_before : (x : ℕ) → u ≡ (c +ℤ pos d) +ℤ pos x
      → Changes (k * d) (m * d) (h -ℤ pos (k * (x + d))) (h -ℤ pos (k * x))
  both_before x at = record { up = omega (arith, ints); down = omega (arith, ints) }

  -- the first x before the place, and the second after
  either_side : (x y : ℕ) → d ≡ x + y → Changes (k * d) (m * d) (h -ℤ pos (k * x)) (h -ℤ pos (m * y))
  either_side x y both =
      let whole : k * d ≡ k * (x + y) = rw both refl in
      let whole' : m * d ≡ m * (x + y) = rw both refl in
      record { up = omega (arith, ints); down = omega (arith, ints) }

-- ---- what one mark asks for, by the distance from its place

abbrev pub asked : (k m : ℕ) (h u c : ℤ) → ℤ
asked k m h u c = h -ℤ pos (cond (int_le u c) m k * unsigned_abs (c -ℤ u))

pub asked_after : (k m : ℕ) (h u c : ℤ) (x : ℕ) → c ≡ u +ℤ pos x → asked k m h u c ≡ h -ℤ pos (m * x)
asked_after k m h u c x at = grind arith

pub asked_before : (k m : ℕ) (h u c : ℤ) (x : ℕ) → u ≡ c +ℤ pos x → 0 < x → asked k m h u c ≡ h -ℤ pos (k * x)
asked_before k m h u c x at some = grind arith

module _ (k m : ℕ) (less : k ≤ m) (h u c c' : ℤ) (d : ℕ) (further : c' ≡ c +ℤ pos d) where
  from_after : u ≤ℤ c → Changes (k * d) (m * d) (asked k m h u c) (asked k m h u c')
  from_after after =
      omega (
        arith,
        ints,
        unsigned_abs (c -ℤ u),
        asked_after k m h u c (unsigned_abs (c -ℤ u)) (omega (arith, ints)),
        asked_after k m h u c' ((unsigned_abs (c -ℤ u)) + d) (omega (arith, ints)),
      )

  from_before : c <ℤ u → Changes (k * d) (m * d) (asked k m h u c) (asked k m h u c')
  from_before before = by_lt_z c' u
      (λ still.
      let x : ℕ = unsigned_abs (u -ℤ c') in
      let here = asked_before k m h u c (x + d) (omega (arith, ints)) (omega (arith, ints)) in
      let there = asked_before k m h u c' x (omega (arith, ints)) (omega (arith, ints)) in
      rw (here, there) (both_before k m less h u c d x (omega (arith, ints))))
      (λ past.
      let x : ℕ = unsigned_abs (u -ℤ c) in
      let y : ℕ = unsigned_abs (c' -ℤ u) in
      let here = asked_before k m h u c x (omega (arith, ints)) (omega (arith, ints)) in
      let there = asked_after k m h u c' y (omega (arith, ints)) in
      rw (here, there) (either_side k m less h u c d x y (omega (arith, ints))))

  -- what one mark asks for rises by at most k and falls by at most m for each tick
  pub Changes-asked : Changes (k * d) (m * d) (asked k m h u c) (asked k m h u c')
  Changes-asked = by_lt_z c u from_before from_after
