-- The marks of an exchange, as the code computes them.
use Rattle.std.proofs.lemmas.Bool.Decides.{nat_tests}
use Rattle.error_marks.proofs.Common.{◌≡◌, ◌^◌, ◌≤◌, ℤ, pos, ◌+ℤ◌, ◌-ℤ◌, ◌≤ℤ◌, unsigned_abs, to_z, of_z, arith, ◌↔◌, IsTrue, refl, true, false, w128, le_z, ints, clamps, stamp_is, kept_sum, low_mark, high_mark, IsPossible, IsWithinRange, Mark, w128_keeps, w128_keeps_difference}
use Rattle.std.specs.Int.{int_max, int_min}
use Rattle.pairing.specs.Exchange.{IsInRange}
use Rattle.pairing.specs.declared.exchange.Exchange.{Exchange}
use Rattle.sample_interval.specs.Exchange.{IsOfSomeClaim}
use Rattle.error_marks.proofs.MarkPair.{le_from_test, lt_from_test, tests, not_both}

-- a number as 128 bits keep it
abbrev pub kept : ℤ → ℤ
kept z = to_z w128 (of_z w128 z)

-- marks whose numbers are equal
pub same_mark : {place place' error error' : ℤ} → place ≡ place' → error ≡ error' →
    ◌≡◌ {A = Mark} record { place = place; error = error } record { place = place'; error = error' }
same_mark p e = rw (p, e) refl

-- an allowance is kept as it is
pub allowance_is : (a : ℤ) → pos 0 ≤ℤ a → a ≤ℤ pos (2 ^ 32) → to_z w128 (of_z w128 a) ≡ a
allowance_is a from to = w128_keeps a (omega (arith, ints))

-- an end of a window, before it is kept
module _ (t a : ℤ) (tick : IsInRange t) (from : pos 0 ≤ℤ a) (to : a ≤ℤ pos (2 ^ 32)) where
  pub start_small : unsigned_abs (to_z w128 (of_z w128 t) -ℤ to_z w128 (of_z w128 a)) ≤ 2 ^ 71
  start_small = rw (stamp_is t tick, allowance_is a from to) (omega (arith, ints))

  pub start_is : to_z w128 (of_z w128 t) -ℤ to_z w128 (of_z w128 a) ≡ t -ℤ a
  start_is = rw (stamp_is t tick, allowance_is a from to) refl

  pub end_small : unsigned_abs (to_z w128 (of_z w128 t) +ℤ to_z w128 (of_z w128 a)) ≤ 2 ^ 71
  end_small = rw (stamp_is t tick, allowance_is a from to) (omega (arith, ints))

  pub end_is : to_z w128 (of_z w128 t) +ℤ to_z w128 (of_z w128 a) ≡ t +ℤ a
  end_is = rw (stamp_is t tick, allowance_is a from to) refl

-- the lesser and the greater of two timestamps
pub lesser : (a b m : ℤ) → IsInRange a → IsInRange b → m ≡ int_min (to_z w128 (of_z w128 a)) (to_z w128 (of_z w128 b)) →
    (m ≡ int_min a b) × IsInRange m
lesser a b m p q is = grind (arith, int_min, stamp_is, clamps)

pub greater : (a b m : ℤ) → IsInRange a → IsInRange b →
    m ≡ int_max (to_z w128 (of_z w128 a)) (to_z w128 (of_z w128 b)) → (m ≡ int_max a b) × IsInRange m
greater a b m p q is = grind (arith, int_max, stamp_is, clamps)

module _ (x : Exchange) (a : ℤ) (h : IsOfSomeClaim x) (from : pos 0 ≤ℤ a) (to : a ≤ℤ pos (2 ^ 32)) where
  pub low_range : IsWithinRange (low_mark a x)
  low_range = grind (arith, ints, nat_tests, h.lawful)

  pub high_range : IsWithinRange (high_mark a x)
  high_range = grind (arith, ints, nat_tests, h.lawful)

pub kept_place : (a : ℤ) → unsigned_abs a ≤ 2 ^ 71 → to_z w128 (of_z w128 a) ≡ a
kept_place a h = w128_keeps a (omega arith)

-- ---- an exchange by itself
kept_start : (t a : ℤ) → IsInRange t → pos 0 ≤ℤ a → a ≤ℤ pos (2 ^ 32) →
    to_z w128 (of_z w128 (to_z w128 (of_z w128 t) -ℤ to_z w128 (of_z w128 a))) ≡ t -ℤ a
kept_start t a p q r = grind (arith, kept_place, to_z, w128, of_z, start_small, start_is)

kept_end : (t a : ℤ) → IsInRange t → pos 0 ≤ℤ a → a ≤ℤ pos (2 ^ 32) →
    to_z w128 (of_z w128 (to_z w128 (of_z w128 t) +ℤ to_z w128 (of_z w128 a))) ≡ t +ℤ a
kept_end t a p q r = grind (arith, kept_place, to_z, w128, of_z, end_small, end_is)

tick_small : (t : ℤ) → IsInRange t → unsigned_abs t ≤ 2 ^ 100
tick_small t h = omega (arith, ints)

module _ (x : Exchange) (a : ℤ) (h : IsOfSomeClaim x) (from : pos 0 ≤ℤ a) (to : a ≤ℤ pos (2 ^ 32)) where
  pub possible : le_z
      (to_z w128 (of_z w128 (to_z w128 (of_z w128 x.t1_low) -ℤ to_z w128 (of_z w128 a))))
      (to_z w128 (of_z w128 (to_z w128 (of_z w128 x.t4_high) +ℤ to_z w128 (of_z w128 a)))) ≡ true →
      IsTrue (le_z
      (to_z w128 (of_z w128 (to_z w128 (of_z w128 x.t2) -ℤ to_z w128 (of_z w128 x.distance))))
      (to_z w128 (of_z w128 (to_z w128 (of_z w128 x.t3) +ℤ to_z w128 (of_z w128 x.distance))))) ↔ IsPossible a x
  possible leaves =
      let first = le_from_test (x.t1_low -ℤ a) (x.t4_high +ℤ a)
      (rw (kept_start x.t1_low a h.lawful.t1_low from to, kept_end x.t4_high a h.lawful.t4_high from to) at leaves) in
      let both = tests (x.t2 -ℤ x.distance) (x.t3 +ℤ x.distance) in
      rw (
        w128_keeps_difference x.t2 x.distance (tick_small x.t2 h.lawful.t2) (tick_small x.distance h.lawful.distance),
        kept_sum x.t3 x.distance (tick_small x.t3 h.lawful.t3) (tick_small x.distance h.lawful.distance),
      ) (
        λ t. record { leaves_before_arrival = first; receives_before_answer = both.0 t },
        λ p. both.1 p.receives_before_answer,
      )

  pub impossible : le_z
      (to_z w128 (of_z w128 (to_z w128 (of_z w128 x.t1_low) -ℤ to_z w128 (of_z w128 a))))
      (to_z w128 (of_z w128 (to_z w128 (of_z w128 x.t4_high) +ℤ to_z w128 (of_z w128 a)))) ≡ false →
      IsTrue (le_z
      (to_z w128 (of_z w128 (to_z w128 (of_z w128 x.t1_low) -ℤ to_z w128 (of_z w128 a))))
      (to_z w128 (of_z w128 (to_z w128 (of_z w128 x.t4_high) +ℤ to_z w128 (of_z w128 a))))) ↔ IsPossible a x
  impossible late = grind (arith, kept_start, kept_end, tests, not_both, lt_from_test)
