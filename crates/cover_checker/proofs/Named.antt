-- What a course that fits the named exchanges keeps: the marks of those with a server that isn't
-- false.
use Rattle.cover_checker.proofs.Common.{◌≡◌, ℕ, ◌<◌, ◌≤◌, inl, inr, false, List, Some, length, refl, arith, slice_get, slice_get_within, All, by_test, ≤ℤ_trans_twice, ClaimData, Course, Exchange, Fits, IsClientMoment, Moment, FitsNamed, IsNamedMoment, IsPossible, KeepsHigh, KeepsLow, group_of, high_mark, low_mark, holds_false, reply_end, request_start}
use Rattle.feasibility.proofs.Covers.{server_is_true}
use Rattle.feasibility.proofs.KeptMarks.{moments_in_order}
use Rattle.feasibility.proofs.ServedExchange.{Times, AreServed, leaves_in_time, arrives_in_time, stamps_in_order, goes_on}
use Rattle.intersection.proofs.Fractions.{le_from_times}

module _ {claim : ClaimData} {xs : List Exchange} {Named : ℕ → Type 0} {course : Course}
    (fits : FitsNamed claim xs Named course) (k : ℕ) (x : Exchange) (named : Named k)
    (at : slice_get xs k ≡ Some x) where
  -- the server is true if its group isn't wrong
  pub true_if_right : fits.few_false.is_wrong (group_of claim x) ≡ false → course.is_false x.server ≡ false
  true_if_right right = by_test (course.is_false x.server)
      (λ false'. absurd (let wrong = fits.few_false.in_wrong_group k x named at false' in cc))
      (λ true'. true')

  pub is_request : IsNamedMoment xs Named course (course.request k)
  is_request = inr (k, x, named, at, inl refl)

  pub is_reply : IsNamedMoment xs Named course (course.reply k)
  is_reply = inr (k, x, named, at, inr refl)

  module _ (true' : course.is_false x.server ≡ false) where
    times : Times
    times = record {
      leaves = (course.request k).time;
      received = course.received k;
      sent = course.sent k;
      arrives = (course.reply k).time;
    }

    served : AreServed course.fineness x.t2 x.t3 x.distance times
    unfolding times
    served =
        let order = fits.ordered k x named at true' in
        let near = fits.within_root_distance k x named at true' in
        record { before = order.0; answered = order.1; after = order.2; near_t2 = near.0; near_t3 = near.1 }

    pub keeps_low : KeepsLow course.fineness (low_mark claim.reading x) (course.request k)
    unfolding times
    keeps_low = (
      fits.leaves_after_stamp k x named at,
      leaves_in_time course.fineness (request_start x claim.reading) x.t2 x.t3 x.distance times served,
    )

    pub keeps_high : KeepsHigh course.fineness (high_mark claim.reading x) (course.reply k)
    unfolding times
    keeps_high = (
      fits.arrives_before_stamp k x named at,
      arrives_in_time course.fineness (reply_end x claim.reading) x.t2 x.t3 x.distance times served,
    )

    pub possible : claim.drift_ppb ≤ 500000000 → IsPossible claim.reading x
    unfolding times
    possible slow =
        let start = request_start x claim.reading in
        let forth = goes_on course.fineness start x.t2 x.t3 x.distance times served in
        let readings = moments_in_order claim.drift_ppb (course.request k) (course.reply k) (omega arith)
        (fits.drift (course.request k) (course.reply k) is_request is_reply) forth in
        record {
          leaves_before_arrival = le_from_times start (reply_end x claim.reading) course.fineness fits.some_fineness
              (≤ℤ_trans_twice _ _ _ _ (fits.leaves_after_stamp k x named at) readings
              (fits.arrives_before_stamp k x named at));
          receives_before_answer = stamps_in_order course.fineness start x.t2 x.t3 x.distance times served
              fits.some_fineness;
        }

-- a course that fits all exchanges fits those that are named
module _ (claim : ClaimData) (xs : List Exchange) (Named : ℕ → Type 0) (course : Course)
    (rate : claim.drift_ppb ≤ 500000000) (listed : All (λ x. x.server < length claim.groups) xs)
    (fits : Fits claim xs course) where
  client_moment : (m : Moment) → IsNamedMoment xs Named course m → IsClientMoment course (length xs) m
  client_moment m (inl is) = inl is
  client_moment m (inr (k, x, named, at, is)) = inr (k, slice_get_within xs k x at, is)

  pub fits_named : FitsNamed claim xs Named course
  fits_named = record {
    some_fineness = fits.some_fineness;
    few_false = record {
      is_wrong = holds_false claim.groups course.is_false;
      few = fits.few_false;
      in_wrong_group = λ k x named at false'. by_test (holds_false claim.groups course.is_false (group_of claim x))
          (λ holds. holds)
          (λ none. absurd (let true' = server_is_true claim rate xs listed course fits k x at none in
          cc));
    };
    leaves_after_stamp = λ k x named at. fits.leaves_after_stamp k x at;
    arrives_before_stamp = λ k x named at. fits.arrives_before_stamp k x at;
    drift = λ a b is_a is_b. fits.drift a b (client_moment a is_a) (client_moment b is_b);
    ordered = λ k x named at true'. fits.ordered k x at true';
    within_root_distance = λ k x named at true'. fits.within_root_distance k x at true';
  }

  -- its wrong groups are those that hold a false server
  pub wrong_is : (group : ℕ) → fits_named.few_false.is_wrong group ≡ holds_false claim.groups course.is_false group
  unfolding fits_named
  wrong_is group = refl
