-- What a course that fits keeps: the marks of each exchange with a server that isn't false, and
-- those of its observation. So they agree.
use Rattle.feasibility.proofs.Common.{◌≡◌, ℕ, ◌≤◌, ℤ, pos, ◌-ℤ◌, ◌*ℤ◌, Bool, false, inl, inr, List, Some, length, refl, arith, All, ints, slice_get_within, ClaimData, RefutationData, Exchange, Mark, low_mark, high_mark, IsPossible, AreCompatible, Moment, error_of, request_start, reply_end, Course, Fits, IsClientMoment, is_liar, IsAgainst, KeepsLow, KeepsHigh, low_marks, high_marks, DoAgree, mark_of, IsRefutedWithDrift, Shows, le_from_times, ≤ℤ_trans_twice, nat_tests}
use Rattle.std.specs.Prelude.{slice_get}
use Rattle.feasibility.proofs.Scaling.{times-sub}
use Rattle.feasibility.proofs.KeptMarks.{moments_in_order, kept_are_compatible}
use Rattle.feasibility.proofs.ServedExchange.{Times, AreServed, leaves_in_time, arrives_in_time, stamps_in_order, goes_on}
use Rattle.feasibility.proofs.TrueExchanges.{all_true, all_marks, all_pairs}

at_reading : (n : ℕ) (reading error place time : ℤ) → place ≡ reading *ℤ pos n → place -ℤ time ≡ error *ℤ pos n
    → time ≡ (reading -ℤ error) *ℤ pos n
at_reading n reading error place time shows off = omega (arith, ints, times-sub (reading -ℤ error) reading error n refl)

module _ (claim : ClaimData) (xs : List Exchange) (course : Course) (k : ℕ) (x : Exchange)
    (at : slice_get xs k ≡ Some x) where
  is_request : IsClientMoment course (length xs) (course.request k)
  is_request = inr (k, slice_get_within xs k x at, inl refl)

  is_reply : IsClientMoment course (length xs) (course.reply k)
  is_reply = inr (k, slice_get_within xs k x at, inr refl)

  times : Times
  times = record {
    leaves = (course.request k).time;
    received = course.received k;
    sent = course.sent k;
    arrives = (course.reply k).time;
  }

  -- its two moments keep its two marks
  module _ (fits : Fits claim xs course) (true' : course.is_false x.server ≡ false) where
    served : AreServed course.fineness x.t2 x.t3 x.distance times
    unfolding times
    served = grind (arith, ints, nat_tests, fits.ordered k x at true', fits.within_root_distance k x at true')

    pub keeps_low : KeepsLow course.fineness (low_mark claim.reading x) (course.request k)
    unfolding times
    keeps_low = (
      fits.leaves_after_stamp k x at,
      leaves_in_time course.fineness (request_start x claim.reading) x.t2 x.t3 x.distance times served,
    )

    pub keeps_high : KeepsHigh course.fineness (high_mark claim.reading x) (course.reply k)
    unfolding times
    keeps_high = (
      fits.arrives_before_stamp k x at,
      arrives_in_time course.fineness (reply_end x claim.reading) x.t2 x.t3 x.distance times served,
    )

    pub possible : claim.drift_ppb ≤ 500000000 → IsPossible claim.reading x
    unfolding times
    possible slow =
        let start = request_start x claim.reading in
        let forth = goes_on course.fineness start x.t2 x.t3 x.distance times served in
        let readings = moments_in_order claim.drift_ppb (course.request k) (course.reply k) (omega arith)
        (fits.drift (course.request k) (course.reply k) is_request is_reply) forth in
        record {
          leaves_before_arrival = le_from_times start (reply_end x claim.reading) course.fineness fits.some_fineness
              (≤ℤ_trans_twice _ _ _ _ (fits.leaves_after_stamp k x at) readings (fits.arrives_before_stamp k x at));
          receives_before_answer = stamps_in_order course.fineness start x.t2 x.t3 x.distance times served
              fits.some_fineness;
        }

module _ {claim : ClaimData} {xs : List Exchange} {course : Course} (slow : claim.drift_ppb ≤ 500000000)
    (fits : Fits claim xs course) where
  pub two_agree : (low high : Mark) (a b : Moment) → IsClientMoment course (length xs) a
      → IsClientMoment course (length xs) b → KeepsLow course.fineness low a → KeepsHigh course.fineness high b
      → AreCompatible claim.drift_ppb low high
  two_agree low high a b is_a is_b keeps_low keeps_high =
      kept_are_compatible claim.drift_ppb course.fineness low high a b fits.some_fineness slow
      (fits.drift a b is_a is_b) keeps_low keeps_high

  module _ (is_false : ℕ → Bool)
      (others : (server : ℕ) → is_false server ≡ false → course.is_false server ≡ false) where
    pub agree : DoAgree claim is_false xs
    agree = record {
      possible = all_true is_false xs (IsPossible claim.reading)
          (λ k x at true'. possible claim xs course k x at fits (others x.server true') slow);
      compatible = all_pairs is_false xs claim.drift_ppb claim.reading
          (λ i j x y at_i at_j true_x true_y.
          two_agree (low_mark claim.reading x) (high_mark claim.reading y) (course.request i) (course.reply j)
          (is_request claim xs course i x at_i) (is_reply claim xs course j y at_j)
          (keeps_low claim xs course i x at_i fits (others x.server true_x))
          (keeps_high claim xs course j y at_j fits (others y.server true_y)));
    }

    module _ (mark : Mark) (low : KeepsLow course.fineness mark course.observation)
        (high : KeepsHigh course.fineness mark course.observation) where
      pub low_agrees : All (AreCompatible claim.drift_ppb mark) (high_marks claim.reading is_false xs)
      low_agrees = all_marks is_false xs (AreCompatible claim.drift_ppb mark) (high_mark claim.reading)
          (λ j y at_j true_y. two_agree mark (high_mark claim.reading y) course.observation (course.reply j)
          (inl refl) (is_reply claim xs course j y at_j) low
          (keeps_high claim xs course j y at_j fits (others y.server true_y)))

      pub high_agrees : All (λ other. AreCompatible claim.drift_ppb other mark) (low_marks claim.reading is_false xs)
      high_agrees = all_marks is_false xs (λ other. AreCompatible claim.drift_ppb other mark) (low_mark claim.reading)
          (λ i x at_i true_x. two_agree (low_mark claim.reading x) mark (course.request i) course.observation
          (is_request claim xs course i x at_i) (inl refl)
          (keeps_low claim xs course i x at_i fits (others x.server true_x)) high)

module _ (n : ℕ) (mark : Mark) (moment : Moment) (shown : moment.reading ≡ mark.place *ℤ pos n)
    (off : error_of moment ≡ mark.error *ℤ pos n) where
  pub observed_low : KeepsLow n mark moment
  observed_low = grind (arith, ints, nat_tests, at_reading n mark.place mark.error moment.reading moment.time shown off)

  pub observed_high : KeepsHigh n mark moment
  observed_high = grind (arith, at_reading n mark.place mark.error moment.reading moment.time shown off)

pub refuted_where_shown : (claim : ClaimData) (xs : List Exchange) (r : RefutationData) (course : Course)
    → claim.drift_ppb ≤ 500000000 → IsAgainst claim r → Shows claim xs r course → IsRefutedWithDrift claim xs r
refuted_where_shown claim xs r course slow against shows =
    let seen = shows.observed in
    let low = observed_low course.fineness (mark_of r) course.observation seen.reading seen.error in
    let high = observed_high course.fineness (mark_of r) course.observation seen.reading seen.error in
    let liar = is_liar r.liars in
    record {
      against = against;
      agree = agree slow shows.fits liar shows.others_true;
      reading_low = low_agrees slow shows.fits liar shows.others_true (mark_of r) low high;
      reading_high = high_agrees slow shows.fits liar shows.others_true (mark_of r) low high;
    }
