-- The lowest course fits: the servers that aren't false receive and answer in time.
use Rattle.feasibility.proofs.Common.{◌≡◌, ℕ, ◌<◌, ◌≤◌, ℤ, pos, ◌+ℤ◌, ◌-ℤ◌, ◌*ℤ◌, ◌≤ℤ◌, Bool, false, ⊎_elim, List, Some, length, refl, ap, arith, All, AllPairs, int_max, int_min, ints, clamps, times_le, times-add, ClaimData, Exchange, Mark, IsLawful as IsLawfulExchange, SameRequest, low_mark, high_mark, IsPossible, AreCompatible, Moment, DriftsWithin, IsWithinDistance, request_start, request_end, reply_start, reply_end, Course, FitsInWindows, IsClientMoment, ReadsInWindows, ComesInOrder, KeepsRootDistance, false_group_count, SharesRequests, KeepsLow, KeepsHigh, low_marks, high_marks, DoAgree, fineness_of, lowest_moment, of_exchange, lowest_course, ≤ℤ_refl, All-slice_get, nat_tests}
use Rattle.std.specs.Prelude.{slice_get}
use Rattle.claim_file.specs.Claim.{IsLawful}
use Rattle.checker.proofs.RefutationCourse.{around, widened, one_start}
use Rattle.feasibility.proofs.Scaling.{times-sub}
use Rattle.feasibility.proofs.TrueExchanges.{true_at, marks_at, all_marks, pair_at}
use Rattle.feasibility.proofs.LowestError.{lowest_drifts, lowest_time_goes_on}
use Rattle.feasibility.proofs.LowestMarks.{keeps_others, keeps_high}

-- ---- times of one exchange, over plain numbers

module _ (n : ℕ) (time place t2 t3 distance : ℤ) where
  before_stamps : time ≤ℤ ((place -ℤ ((place -ℤ int_min t2 t3) -ℤ distance)) *ℤ pos n)
      → (time ≤ℤ ((t2 +ℤ distance) *ℤ pos n)) × (time ≤ℤ ((t3 +ℤ distance) *ℤ pos n))
  before_stamps h =
      grind (
        arith,
        ints,
        nat_tests,
        place -ℤ ((place -ℤ int_min t2 t3) -ℤ distance),
        times_le (place -ℤ ((place -ℤ
            int_min t2 t3) -ℤ distance)) (t2 +ℤ distance) n (omega (arith, ints, clamps)),
        times_le (place -ℤ ((place -ℤ
            int_min t2 t3) -ℤ distance)) (t3 +ℤ distance) n (omega (arith, ints, clamps)),
      )

  after_stamps : ((place -ℤ ((place -ℤ int_max t2 t3) +ℤ distance)) *ℤ pos n) ≤ℤ time
      → (((t2 -ℤ distance) *ℤ pos n) ≤ℤ time) × (((t3 -ℤ distance) *ℤ pos n) ≤ℤ time)
  after_stamps h =
      grind (
        arith,
        ints,
        nat_tests,
        place -ℤ ((place -ℤ int_max t2 t3) +ℤ distance),
        times_le (t2 -ℤ distance) (place
            -ℤ ((place -ℤ int_max t2 t3) +ℤ distance)) n (omega (arith, ints, clamps)),
        times_le (t3 -ℤ distance) (place -ℤ
            ((place -ℤ int_max t2 t3) +ℤ distance)) n (omega (arith, ints, clamps)),
      )

-- a server has room for its two times: the first and the last of each, and of leaving and arriving
record HasRoom (leaves arrives from2 to2 from3 to3 : ℤ) : Type 0 where
  leaves_first : leaves ≤ℤ arrives
  leaves_by_t2 : leaves ≤ℤ to2
  leaves_by_t3 : leaves ≤ℤ to3
  t2_forward : from2 ≤ℤ to2
  t2_by_t3 : from2 ≤ℤ to3
  t3_forward : from3 ≤ℤ to3
  arrives_after_t2 : from2 ≤ℤ arrives
  arrives_after_t3 : from3 ≤ℤ arrives

module _ (leaves arrives from2 to2 from3 to3 : ℤ) (room : HasRoom leaves arrives from2 to2 from3 to3) where
  in_order : (leaves ≤ℤ int_max leaves from2) × (int_max leaves from2 ≤ℤ int_max (int_max leaves from2) from3)
      × (int_max (int_max leaves from2) from3 ≤ℤ arrives)
  in_order = (omega (arith, ints, clamps), omega (arith, ints, clamps), omega (arith, ints, clamps, room))

  receipt_between : (from2 ≤ℤ int_max leaves from2) × (int_max leaves from2 ≤ℤ to2)
  receipt_between = (omega (arith, ints, clamps), omega (arith, ints, clamps, room))

  answer_between : (from3 ≤ℤ int_max (int_max leaves from2) from3) × (int_max (int_max leaves from2) from3 ≤ℤ to3)
  answer_between = (omega (arith, ints, clamps), omega (arith, ints, clamps, room))

near : (n : ℕ) (stamp distance time : ℤ)
    → (((stamp -ℤ distance) *ℤ pos n) ≤ℤ time) × (time ≤ℤ ((stamp +ℤ distance) *ℤ pos n))
    → IsWithinDistance n stamp distance time
near n stamp distance time between =
    grind (
      arith,
      ints,
      nat_tests,
      times-sub (stamp -ℤ distance) stamp distance n refl,
      times-add (stamp +ℤ distance)
          stamp distance n refl,
    )

-- ---- the course

-- what the lowest course of a first mark needs: lawful exchanges that agree, with that mark too
pub record Needs (claim : ClaimData) (is_false : ℕ → Bool) (first : Mark) (xs : List Exchange) : Type 0 where
  pub lawful : IsLawful claim
  pub each : All (IsLawfulExchange (length claim.servers)) xs
  pub agree : DoAgree claim is_false xs
  pub first_agrees : All (AreCompatible claim.drift_ppb first) (high_marks claim.reading is_false xs)

module _ {claim : ClaimData} {is_false : ℕ → Bool} {first : Mark} {xs : List Exchange}
    (needs : Needs claim is_false first xs) (reading : ℤ) where
  abbrev lows : List Mark
  lows = low_marks claim.reading is_false xs

  abbrev course : Course
  course = lowest_course claim is_false first reading xs

  abbrev n : ℕ
  n = fineness_of claim.drift_ppb

  abbrev moment : ℤ → Moment
  moment c = lowest_moment claim.drift_ppb first lows c

  some_fineness : 0 < fineness_of claim.drift_ppb
  some_fineness = omega (arith, needs.lawful.drift_in_range)

  -- each moment of the client is one of the lowest moments
  at_some_reading : (m : Moment) → IsClientMoment course (length xs) m → (c : ℤ) × (m ≡ moment c)
  at_some_reading m = ⊎_elim
      (λ e. (reading, e))
      (λ found. ⊎_elim
      (λ e. (of_exchange (λ x. request_start x claim.reading) (slice_get xs found.0), e))
      (λ e. (of_exchange (λ x. reply_end x claim.reading) (slice_get xs found.0), e)) found.2)

  drift : (a b : Moment) → IsClientMoment course (length xs) a → IsClientMoment course (length xs) b
      → DriftsWithin claim.drift_ppb a b
  drift a b is_a is_b =
      let at_a = at_some_reading a is_a in
      let at_b = at_some_reading b is_b in
      rw (at_a.1, at_b.1) (lowest_drifts claim.drift_ppb needs.lawful.drift_in_range first lows at_a.0 at_b.0)

  windows : (k : ℕ) (x : Exchange) → slice_get xs k ≡ Some x → ReadsInWindows claim.reading course k x
  windows k x at =
      let lawful = All-slice_get (IsLawfulExchange (length claim.servers)) xs k x needs.each at in
      let some = needs.lawful.reading_not_negative in
      let request = widened x.t1_low x.t1_high claim.reading lawful.t1_ordered some in
      let reply = widened x.t4_low x.t4_high claim.reading lawful.t4_ordered some in
      rw at (
        (≤ℤ_refl _, times_le (request_start x claim.reading) (request_end x claim.reading) n request),
        (times_le (reply_start x claim.reading) (reply_end x claim.reading) n reply, ≤ℤ_refl _),
      )

  -- an exchange with a server that isn't false
  module _ (k : ℕ) (x : Exchange) (at : slice_get xs k ≡ Some x) (true' : is_false x.server ≡ false) where
    low_kept : KeepsLow n (low_mark claim.reading x) (moment (request_start x claim.reading))
    low_kept =
        marks_at is_false xs (λ mark. KeepsLow n mark (moment mark.place)) (low_mark claim.reading) k x
        (keeps_others claim.drift_ppb first lows) at true'

    high_kept : KeepsHigh n (high_mark claim.reading x) (moment (reply_end x claim.reading))
    high_kept =
        let with_first = marks_at is_false xs (AreCompatible claim.drift_ppb first) (high_mark claim.reading) k x
        needs.first_agrees at true' in
        let with_others : All (λ low. AreCompatible claim.drift_ppb low (high_mark claim.reading x)) lows =
        all_marks is_false xs (λ low. AreCompatible claim.drift_ppb low (high_mark claim.reading x))
        (low_mark claim.reading) (λ i y at_i true_y. pair_at is_false xs claim.drift_ppb claim.reading i k y x
        needs.agree.compatible at_i at true_y true') in
        keeps_high claim.drift_ppb first lows (high_mark claim.reading x) with_first with_others

    room : HasRoom (moment (request_start x claim.reading)).time (moment (reply_end x claim.reading)).time
        ((x.t2 -ℤ x.distance) *ℤ pos n) ((x.t2 +ℤ x.distance) *ℤ pos n)
        ((x.t3 -ℤ x.distance) *ℤ pos n) ((x.t3 +ℤ x.distance) *ℤ pos n)
    room =
        let lawful = All-slice_get (IsLawfulExchange (length claim.servers)) xs k x needs.each at in
        let possible = true_at is_false xs (IsPossible claim.reading) k x needs.agree.possible at true' in
        let start = request_start x claim.reading in
        let end = reply_end x claim.reading in
        let low = before_stamps n (moment start).time start x.t2 x.t3 x.distance low_kept.1 in
        let high = after_stamps n (moment end).time end x.t2 x.t3 x.distance high_kept.1 in
        let some_distance = lawful.distance_not_negative in
        record {
          leaves_first = lowest_time_goes_on claim.drift_ppb needs.lawful.drift_in_range first lows start end
              possible.leaves_before_arrival;
          leaves_by_t2 = low.0;
          leaves_by_t3 = low.1;
          t2_forward = times_le _ _ n (around x.t2 x.distance some_distance);
          t2_by_t3 = times_le _ _ n possible.receives_before_answer;
          t3_forward = times_le _ _ n (around x.t3 x.distance some_distance);
          arrives_after_t2 = high.0;
          arrives_after_t3 = high.1;
        }

    order : ComesInOrder course k x
    order = rw at (in_order _ _ _ _ _ _ room)

    distances : KeepsRootDistance course k x
    distances =
        rw at (
          near n x.t2 x.distance _ (receipt_between _ _ _ _ _ _ room),
          near n x.t3 x.distance _ (answer_between _ _ _ _ _ _ room),
        )

  pub lowest_fits : false_group_count claim.groups is_false ≤ claim.false_max → FitsInWindows claim xs course
  lowest_fits few = record {
    fits = record {
      some_fineness = some_fineness;
      few_false = few;
      leaves_after_stamp = λ k x at. (windows k x at).0.0;
      arrives_before_stamp = λ k x at. (windows k x at).1.1;
      drift = drift;
      ordered = order;
      within_root_distance = distances;
    };
    in_windows = windows;
  }

pub lowest_shares : (claim : ClaimData) (is_false : ℕ → Bool) (first : Mark) (reading : ℤ) (xs : List Exchange)
    → AllPairs SameRequest xs → SharesRequests xs (lowest_course claim is_false first reading xs)
lowest_shares claim is_false first reading xs agree i j x y at_i at_j same =
    grind (arith, ints, nat_tests, ap (λ (t : ℤ). t -ℤ claim.reading) (one_start xs agree i j x y at_i at_j same))
