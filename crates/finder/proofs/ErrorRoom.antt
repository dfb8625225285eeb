-- The errors for which exchanges leave room.
use Rattle.finder.proofs.Common.{◌≡◌, ◌^◌, ℤ, pos, neg_ℤ, ◌≤ℤ◌, int_lt, true, false, true≢false, not, ◌||◌, refl, sym, ◌∙◌, arith, int_max, int_min, ints, clamps, leaves_out, Exchange, Admits, admits, high_mark, low_mark, IsNear, by_test, or_from}
use Rattle.error_marks.specs.Mark.{IsPossible}
use Rattle.checker.proofs.RefutationTests.{admits_from, admits_to}

-- ---- one interval

pub is_inside : (lo hi e : ℤ) → lo ≤ℤ e → e ≤ℤ hi → leaves_out (record { lo = lo; hi = hi }) e ≡ false
is_inside lo hi e from to =
    or_from (int_lt e lo) (int_lt hi e) (grind (arith, ints)) (grind (arith, ints))

pub not_left_out : (lo hi e : ℤ) → leaves_out (record { lo = lo; hi = hi }) e ≡ false → (lo ≤ℤ e) × (e ≤ℤ hi)
not_left_out lo hi e h = by_test (int_lt e lo)
    (λ below. absurd (let is : true ≡ false = rw below at h in cc))
    (λ not_below. (
      (grind (arith, ints)),
      (let not_above : int_lt hi e ≡ false = rw not_below at h in grind (arith, ints)),
    ))

pub left_out_of_either : (al ah bl bh e : ℤ)
    → leaves_out (record { lo = int_max al bl; hi = int_min ah bh }) e
    ≡ (leaves_out (record { lo = al; hi = ah }) e || leaves_out (record { lo = bl; hi = bh }) e)
left_out_of_either al ah bl bh e = grind (arith, ints, clamps)

-- ---- one exchange

module _ (allowance error : ℤ) (x : Exchange) where
  abbrev lo : ℤ
  lo = (low_mark allowance x).error

  abbrev hi : ℤ
  hi = (high_mark allowance x).error

  -- an exchange leaves room for an error exactly if it is possible, and the error lies between the marks
  admits_between : IsPossible allowance x → lo ≤ℤ error → error ≤ℤ hi → admits allowance error x ≡ true
  admits_between possible from to = admits_to allowance error x (omega (arith, ints, clamps))

  between : Admits allowance error x → (lo ≤ℤ error) × (error ≤ℤ hi)
  between is = (omega (arith, ints, clamps), omega (arith, ints, clamps))

  pub room_is : IsPossible allowance x → leaves_out (record { lo = lo; hi = hi }) error ≡ not (admits allowance error x)
  room_is possible = by_test (admits allowance error x)
      (λ yes'.
      let ends = between (admits_from allowance error x yes') in
      rw yes' (is_inside lo hi error ends.0 ends.1))
      (λ no'. rw no' (by_test (leaves_out (record { lo = lo; hi = hi }) error) (λ out. out) (λ inside.
      let ends = not_left_out lo hi error inside in
      absurd (true≢false (sym (admits_between possible ends.0 ends.1) ∙ no')))))

  pub no_room : ¬ (IsPossible allowance x) → IsNear error
      → leaves_out (record { lo = pos (2 ^ 80); hi = neg_ℤ (pos (2 ^ 80)) }) error ≡ not (admits allowance error x)
  no_room impossible near =
      let below : int_lt error (pos (2 ^ 80)) ≡ true = grind (arith, ints) in
      by_test (admits allowance error x)
      (λ yes'. let is = admits_from allowance error x yes' in absurd (impossible (grind (arith, ints))))
      (λ no'. rw (below, no') refl)
