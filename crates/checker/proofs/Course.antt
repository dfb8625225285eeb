-- Courses that fit.
use Rattle.checker.proofs.Common.{◌≡◌, ℕ, zero, suc, ◌+◌, ◌-◌, ◌<◌, ℤ, pos, ◌-ℤ◌, ◌+ℤ◌, ◌*ℤ◌, ◌≤ℤ◌, unsigned_abs, Bool, false, inl, inr, ⊎_elim, List, [], ◌∷◌, Some, count_by, refl, ap, ◌∙◌, subst, arith, slice_get, ints, sum_by-cons, ClaimData, IsLawful, Exchange, Moment, error_of, DriftsWithin, IsInWindow, IsWithinDistance, Fits, FitsInWindows, IsClientMoment, ReadsInWindows, KeepsRootDistance, false_group_count, OfEachEntry, FitsPiece, IsTraceable, worked_second, worked_claim, worked_exchange, moment_with, served_course, slow_course, slow_claim, stamped_course, earlier_exchange, stepped_course, lone_course, ◌<ℤ◌, and_right, list_any_none, nat_tests, rules}
use Rattle.checker.proofs.PieceFit.{few_from_count}

-- ---- no false server

count_none : (p : ℕ → Bool) (xs : List ℕ) → ((k : ℕ) → p k ≡ false) → count_by p xs ≡ 0
count_none p [] none = refl
count_none p (x ∷ xs) none = sum_by-cons _ x xs ∙ rw (none x, count_none p xs none) refl

pub no_false_group : (groups : List ℕ) → false_group_count groups (λ server. false) ≡ 0
no_false_group groups = grind (arith, ints, nat_tests, count_none, list_any_none, and_right)

-- ---- one error throughout

-- between moments with one error there is no drift
pub one_error : (ppb : ℕ) (a b : Moment) (e : ℤ) → error_of a ≡ e → error_of b ≡ e → DriftsWithin ppb a b
one_error ppb a b e at_a at_b = grind (arith, ints, nat_tests)

pub reads_back : (error reading : ℤ) → reading -ℤ (reading -ℤ error) ≡ error
reads_back error reading = omega (arith, ints)

-- ---- the worked exchange

only_one : (k : ℕ) (x : Exchange) → slice_get (worked_exchange ∷ []) k ≡ Some x → worked_exchange ≡ x
only_one zero x at = cc
only_one (suc k) x at = absurd cc

-- what holds of the worked exchange holds of each exchange, if there is no other
of_one : (P : Exchange → Type 0) → P worked_exchange → (k : ℕ) (x : Exchange)
    → slice_get (worked_exchange ∷ []) k ≡ Some x → P x
of_one P holds k x at = subst P (only_one k x at) holds

keeps_its_distance : (error left arrived served : ℤ) → pos (worked_second + 42949672) ≤ℤ served
    → served ≤ℤ pos (worked_second + 42949674)
    → KeepsRootDistance (stamped_course error left arrived served) 0 worked_exchange
keeps_its_distance error left arrived served no_sooner no_later = (omega (arith, ints), omega (arith, ints))

module _ (allowance error left arrived served : ℤ) where
  pub stamped_fits : (pos worked_second -ℤ allowance) ≤ℤ left
      → arrived ≤ℤ (pos (worked_second + 85903641) +ℤ allowance)
      → pos (worked_second + 42949672) ≤ℤ served → served ≤ℤ pos (worked_second + 42949674)
      → (left -ℤ error) ≤ℤ served → served ≤ℤ (arrived -ℤ error)
      → Fits (record worked_claim { reading = allowance }) (worked_exchange ∷ [])
      (stamped_course error left arrived served)
  stamped_fits after before no_sooner no_later sent_before arrived_after = grind (arith, ints, nat_tests)

module _ (error reply_reading served : ℤ) where
  -- the readings lie in the windows of the worked exchange
  in_its_windows : pos (worked_second + 85899345) ≤ℤ reply_reading
      → reply_reading ≤ℤ pos (worked_second + 85903641)
      → ReadsInWindows (pos 0) (served_course error reply_reading served) 0 worked_exchange
  in_its_windows from to = grind (arith, ints, nat_tests)

  pub worked_fits : pos (worked_second + 85899345) ≤ℤ reply_reading
      → reply_reading ≤ℤ pos (worked_second + 85903641)
      → pos (worked_second + 42949672) ≤ℤ served → served ≤ℤ pos (worked_second + 42949674)
      → (pos worked_second -ℤ error) ≤ℤ served → served ≤ℤ (reply_reading -ℤ error)
      → FitsInWindows worked_claim (worked_exchange ∷ []) (served_course error reply_reading served)
  worked_fits from to no_sooner no_later sent_before arrived_after = record {
    fits = stamped_fits (pos 0) error (pos worked_second) reply_reading served (omega (arith, ints))
        (omega (arith, ints)) no_sooner no_later sent_before arrived_after;
    in_windows = of_one (ReadsInWindows (pos 0) (served_course error reply_reading served) 0) (in_its_windows from to);
  }

pub stamped_out_of_windows : FitsInWindows worked_claim (worked_exchange ∷ [])
    (stamped_course (pos 0) (pos (worked_second + 21474836)) (pos (worked_second + 60129542))
    (pos (worked_second + 42949673))) → ⊥
stamped_out_of_windows narrow = omega (arith, ints, (narrow.in_windows 0 worked_exchange refl).0.1)

pub late_at_request : (error reply served : ℤ) → FitsPiece worked_claim (worked_exchange ∷ []) ((0, 0) ∷ [])
    (stamped_course error (pos (worked_second - 1)) reply served) → ⊥
late_at_request error reply served fits =
    omega (arith, ints, fits.leaves_after_stamp 0 0 0 worked_exchange worked_exchange refl refl refl)

pub early_at_reply : (error request served : ℤ) → FitsPiece worked_claim (worked_exchange ∷ []) ((0, 0) ∷ [])
    (stamped_course error request (pos (worked_second + 85903642)) served) → ⊥
early_at_reply error request served fits =
    omega (arith, ints, fits.arrives_before_stamp 0 0 0 worked_exchange worked_exchange refl refl refl)

-- ---- the slow clock

pub slow_fits : FitsInWindows slow_claim (worked_exchange ∷ []) slow_course
slow_fits = search rules

-- ---- the clock that is stepped

-- what holds of the worked exchange holds of what is named
of_worked : (P : ℕ → Exchange → ℕ → Exchange → Type 0) → P 1 worked_exchange 1 worked_exchange
    → OfEachEntry (earlier_exchange ∷ worked_exchange ∷ []) ((1, 1) ∷ []) P
of_worked P holds zero a b x y named at_a at_b = search rules
of_worked P holds (suc j) a b x y named at_a at_b = absurd cc

pub stepped_fits : FitsPiece worked_claim (earlier_exchange ∷ worked_exchange ∷ []) ((1, 1) ∷ []) stepped_course
stepped_fits =
    let error = pos 0 in
    let reading = pos (worked_second + 85899345) in
    let served = pos (worked_second + 42949673) in
    let near = keeps_its_distance error reading reading served (omega (arith, ints)) (omega (arith, ints)) in
    record {
      some_fineness = omega arith;
      few_false = few_from_count worked_claim (earlier_exchange ∷ worked_exchange ∷ []) ((1, 1) ∷ []) stepped_course
          stepped_course.is_false (rw (no_false_group (0 ∷ [])) (omega arith))
          (λ j a b x y named at_a at_b false'. false');
      leaves_after_stamp = of_worked
          (λ a x b y. ((x.t1_low -ℤ pos 0) *ℤ pos 1) ≤ℤ (stepped_course.request a).reading) (omega (arith, ints));
      arrives_before_stamp = of_worked
          (λ a x b y. (stepped_course.reply b).reading ≤ℤ ((y.t4_high +ℤ pos 0) *ℤ pos 1)) (omega (arith, ints));
      drift = of_worked
          (λ a x b y. DriftsWithin 0 (stepped_course.request a) stepped_course.observation
          × DriftsWithin 0 (stepped_course.reply b) stepped_course.observation) (
            one_error 0 (stepped_course.request 1) stepped_course.observation error (omega (arith, ints))
                (omega (arith, ints)),
            one_error 0 (stepped_course.reply 1) stepped_course.observation error (omega (arith, ints))
                (omega (arith, ints)),
          );
      ordered = of_worked
          (λ a x b y. stepped_course.is_false x.server ≡ false → stepped_course.is_false y.server ≡ false
          → ((stepped_course.request a).time ≤ℤ stepped_course.received a)
          × (stepped_course.sent b ≤ℤ (stepped_course.reply b).time))
          (λ true_x true_y. (omega (arith, ints), omega (arith, ints)));
      within_root_distance = of_worked
          (λ a x b y. stepped_course.is_false x.server ≡ false → stepped_course.is_false y.server ≡ false
          → IsWithinDistance 1 x.t2 x.distance (stepped_course.received a)
          × IsWithinDistance 1 y.t3 y.distance (stepped_course.sent b))
          (λ true_x true_y. near);
    }

pub stepped_fits_no_capture : Fits worked_claim (earlier_exchange ∷ worked_exchange ∷ []) stepped_course → ⊥
stepped_fits_no_capture fits =
    omega (
      arith,
      ints,
      fits.drift (stepped_course.request 0) stepped_course.observation (inr (
        0,
        omega arith,
        inl
            refl,
      )) (inl refl),
    )

pub ruleset stepped_clock = (stepped_fits, stepped_fits_no_capture)

-- ---- no exchange at all

lone_moment : (n : ℕ) (observation m : Moment) → IsClientMoment (lone_course n observation) 0 m → m ≡ observation
lone_moment n observation m = ⊎_elim (λ e. e) (λ found. absurd (let below = found.1 in omega arith))

pub lone_fits : (claim : ClaimData) (n : ℕ) (observation : Moment) → 0 < n
    → FitsInWindows claim [] (lone_course n observation)
lone_fits claim n observation some = record {
  fits = record {
    some_fineness = some;
    few_false = rw (no_false_group claim.groups) (omega arith);
    leaves_after_stamp = λ k x at. absurd cc;
    arrives_before_stamp = λ k x at. absurd cc;
    drift = λ a b at_a at_b. one_error claim.drift_ppb a b (error_of observation)
        (ap error_of (lone_moment n observation a at_a)) (ap error_of (lone_moment n observation b at_b));
    ordered = λ k x at true'. absurd cc;
    within_root_distance = λ k x at true'. absurd cc;
  };
  in_windows = λ k x at. absurd cc;
}

-- a span holds its first reading
pub at_start : (first last : ℤ) → first ≤ℤ last → IsInWindow 1 first last first
at_start first last forward = (omega (arith, ints), omega (arith, ints))

-- such an error is beyond the bound
pub beyond : (bound error reading : ℤ) → bound <ℤ pos (unsigned_abs error)
    → pos (unsigned_abs (reading -ℤ (reading -ℤ error))) ≤ℤ (bound *ℤ pos 1) → ⊥
beyond bound error reading far near = omega (arith, ints)

-- so nothing is traceable to no sample
pub untraceable : (claim : ClaimData) → IsLawful claim → IsTraceable claim [] → ⊥
untraceable claim lawful traceable =
    let observation = moment_with (claim.bound +ℤ pos 1) claim.first in
    beyond claim.bound (claim.bound +ℤ pos 1) claim.first
    (let some = lawful.bound_not_negative in omega (arith, ints))
    (traceable [] (lone_course 1 observation) refl (lone_fits claim 1 observation (omega arith)).fits
    (at_start claim.first claim.last lawful.span_forward))

pub ruleset stamped_clock = (stamped_fits, stamped_out_of_windows)
