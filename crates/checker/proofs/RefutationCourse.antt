-- The course that an accepted refutation stands for.
use Rattle.checker.proofs.Common.{◌≡◌, ℕ, ◌<◌, ℤ, pos, ◌+ℤ◌, ◌-ℤ◌, ◌*ℤ◌, ◌≤ℤ◌, false, ⊎_elim, List, length, Option, Some, None, refl, sym, ap, ◌∙◌, arith, All, AllPairs, slice_get, int_max, ints, clamps, nat_tests, get_or_from_slice_get, slice_get_within, RefutationData, ClaimData, SameRequest, Exchange, Moment, error_of, IsWithinDistance, request_start, reply_end, Course, Fits, FitsInWindows, IsClientMoment, ReadsInWindows, ComesInOrder, KeepsRootDistance, is_liar, AdmitsError, Admits, IsRefuted, SharesRequests, HasCourse, SomeCourseFits, IsObservedIn, IsTraceable, samples_of, moment_with, by_test, All-slice_get, int_max-least, ≤ℤ-sub, rules}
use Rattle.std.specs.Prelude.{nat_lt}
use Rattle.checker.proofs.Course.{one_error, reads_back}
use Rattle.pairing.specs.Exchange.{IsLawful as IsLawfulExchange}

-- ---- bounds

pub around : (stamp distance : ℤ) → pos 0 ≤ℤ distance → (stamp -ℤ distance) ≤ℤ (stamp +ℤ distance)
around stamp distance some = omega (arith, ints)

within : (stamp distance time : ℤ) → (stamp -ℤ distance) ≤ℤ time → time ≤ℤ (stamp +ℤ distance)
    → IsWithinDistance 1 stamp distance time
within stamp distance time from to = omega (arith, ints)

-- ---- the server's two times

-- an exchange that leaves room for an error: the server receives as soon as it can, and then answers as soon as it can
module _ (start end t2 t3 distance error : ℤ) where
  abbrev receipt_time : ℤ
  receipt_time = int_max (start -ℤ error) (t2 -ℤ distance)

  abbrev answer_time : ℤ
  answer_time = int_max receipt_time (t3 -ℤ distance)

  in_order : AdmitsError start end t2 t3 distance error
      → ((start -ℤ error) ≤ℤ receipt_time) × (receipt_time ≤ℤ answer_time) × (answer_time ≤ℤ (end -ℤ error))
  in_order room =
      let leaves = ≤ℤ-sub start end error room.leaves_before_arrival in
      let receives = room.receives_before_arrival in
      let answers = room.answers_before_arrival in (
        omega (arith, ints, clamps),
        omega (arith, ints, clamps),
        int_max-least _ _ _ (int_max-least _ _ _ leaves receives) answers,
      )

  near_stamps : AdmitsError start end t2 t3 distance error → pos 0 ≤ℤ distance
      → IsWithinDistance 1 t2 distance receipt_time × IsWithinDistance 1 t3 distance answer_time
  near_stamps room some =
      let receipt = int_max-least (start -ℤ error) (t2 -ℤ distance) (t2 +ℤ distance) room.leaves_before_receipt
      (around t2 distance some) in
      let answer = int_max-least receipt_time (t3 -ℤ distance) (t3 +ℤ distance)
      (int_max-least _ _ _ room.leaves_before_answer room.receives_before_answer) (around t3 distance some) in (
        within t2 distance receipt_time (omega (arith, ints, clamps)) receipt,
        within t3 distance answer_time (omega (arith, ints, clamps)) answer,
      )

once : (a : ℤ) → (a *ℤ pos 1) ≡ a
once a = omega (arith, ints)

pub widened : (low high allowance : ℤ) → low ≤ℤ high → pos 0 ≤ℤ allowance → (low -ℤ allowance) ≤ℤ (high +ℤ allowance)
widened low high allowance forward some = omega (arith, ints)

-- ---- elements of a list

module _ {X : Type 0} where
  module _ (R : X → X → Type 0) (xs : List X) (all : AllPairs R xs) where
    pair_at : (i j : ℕ) (x y : X) → i < j → slice_get xs i ≡ Some x → slice_get xs j ≡ Some y → R x y
    pair_at i j x y before at_i at_j = grind (arith, ints, nat_tests, slice_get_within, get_or_from_slice_get)

module _ (xs : List Exchange) (agree : AllPairs SameRequest xs) where
  -- exchanges of one request agree in when it was sent
  pub one_start : (i j : ℕ) (x y : Exchange) → slice_get xs i ≡ Some x → slice_get xs j ≡ Some y
      → x.request ≡ y.request → x.t1_low ≡ y.t1_low
  one_start i j x y at_i at_j same =
      by_test (nat_lt i j)
      (λ before. (pair_at SameRequest xs agree i j x y (grind (arith, nat_tests)) at_i at_j same).0)
      (λ after. by_test (nat_lt j i)
      (λ before. sym (pair_at SameRequest xs agree j i y x (grind (arith, nat_tests)) at_j at_i (sym same)).0)
      (λ neither. let equal : i ≡ j = grind (arith, nat_tests) in
      let is : Some x ≡ Some y = sym at_i ∙ ap (slice_get xs) equal ∙ at_j in
      let one : x ≡ y = cc in ap (λ (z : Exchange). z.t1_low) one))

-- ---- the course

-- what f says about an exchange, or 0 if there is none
abbrev of_exchange : (Exchange → ℤ) → Option Exchange → ℤ
of_exchange f None = pos 0
of_exchange f (Some x) = f x

module _ (claim : ClaimData) (xs : List Exchange) (r : RefutationData) where
  abbrev start_of : Exchange → ℤ
  start_of x = request_start x claim.reading

  abbrev end_of : Exchange → ℤ
  end_of x = reply_end x claim.reading

  abbrev received_at : Exchange → ℤ
  received_at x = receipt_time (start_of x) (end_of x) x.t2 x.t3 x.distance r.error

  abbrev sent_at : Exchange → ℤ
  sent_at x = answer_time (start_of x) (end_of x) x.t2 x.t3 x.distance r.error

  -- the clock reads as little as it can at each request and as much as it can at each reply
  abbrev course : Course
  course = record {
    fineness = 1;
    is_false = is_liar r.liars;
    request = λ k. moment_with r.error (of_exchange start_of (slice_get xs k));
    received = λ k. of_exchange received_at (slice_get xs k);
    sent = λ k. of_exchange sent_at (slice_get xs k);
    reply = λ k. moment_with r.error (of_exchange end_of (slice_get xs k));
    observation = moment_with r.error (pos r.reading);
  }

  client_error : (m : Moment) → IsClientMoment course (length xs) m → error_of m ≡ r.error
  client_error m = ⊎_elim
      (λ e. ap error_of e ∙ reads_back r.error (pos r.reading))
      (λ found. ⊎_elim
      (λ e. ap error_of e ∙ reads_back r.error (of_exchange start_of (slice_get xs found.0)))
      (λ e. ap error_of e ∙ reads_back r.error (of_exchange end_of (slice_get xs found.0))) found.2)

  module _ (some : pos 0 ≤ℤ claim.reading) (servers : ℕ) (each : All (IsLawfulExchange servers) xs)
      (refuted : IsRefuted claim xs r) where
    windows : (k : ℕ) (x : Exchange) → slice_get xs k ≡ Some x → ReadsInWindows claim.reading course k x
    windows k x at =
        grind (arith, ints, All-slice_get (IsLawfulExchange servers) xs k x each at)

    room : (k : ℕ) (x : Exchange) → slice_get xs k ≡ Some x → is_liar r.liars x.server ≡ false
        → Admits claim.reading r.error x
    room k x at =
        All-slice_get (λ y. is_liar r.liars y.server ≡ false → Admits claim.reading r.error y) xs k x refuted.admits at

    order : (k : ℕ) (x : Exchange) → slice_get xs k ≡ Some x → is_liar r.liars x.server ≡ false
        → ComesInOrder course k x
    order k x at true' = rw at (in_order (start_of x) (end_of x) x.t2 x.t3 x.distance r.error (room k x at true'))

    distances : (k : ℕ) (x : Exchange) → slice_get xs k ≡ Some x → is_liar r.liars x.server ≡ false
        → KeepsRootDistance course k x
    distances k x at true' =
        let lawful = All-slice_get (IsLawfulExchange servers) xs k x each at in
        rw at (near_stamps (start_of x) (end_of x) x.t2 x.t3 x.distance r.error (room k x at true')
        lawful.distance_not_negative)

    fits : FitsInWindows claim xs course
    fits = record {
      fits = record {
        some_fineness = omega arith;
        few_false = refuted.against.few_false;
        leaves_after_stamp = λ k x at. (windows k x at).0.0;
        arrives_before_stamp = λ k x at. (windows k x at).1.1;
        drift = λ a b at_a at_b. one_error claim.drift_ppb a b r.error (client_error a at_a) (client_error b at_b);
        ordered = order;
        within_root_distance = distances;
      };
      in_windows = windows;
    }

    shared : AllPairs SameRequest xs → SharesRequests xs course
    shared agree i j x y at_i at_j same =
        grind (arith, ints, nat_tests, ap (λ (t : ℤ). t -ℤ claim.reading) (one_start xs agree i j x y at_i at_j same))

    pub has_course : AllPairs SameRequest xs → HasCourse claim xs r
    has_course agree = (
      course,
      record {
        fits = fits;
        off_throughout = record {
          just_liars_false = λ server. refl;
          one_error = λ m is. client_error m is ∙ sym (once r.error);
        };
        shares_requests = shared agree;
        observed = sym (once (pos r.reading));
      },
    )

    observed_in_span : IsObservedIn course claim.first claim.last
    observed_in_span = search rules

    pub some_fits : SomeCourseFits claim xs
    some_fits = (course, fits, observed_in_span)

    -- so nothing is traceable to the samples of these exchanges
    pub not_traceable : IsTraceable claim (samples_of xs claim) → ⊥
    not_traceable traceable = grind (arith, ints, nat_tests, traceable xs course refl fits.fits observed_in_span)

-- ---- another bound

module _ (claim : ClaimData) (bound : ℤ) (bound_ns : ℕ) (xs : List Exchange) where
  pub other_bound : (course' : Course) → Fits (record claim { bound = bound; bound_ns = bound_ns }) xs course'
      → Fits claim xs course'
  other_bound course' f = search rules

  pub other_bound_in_windows : (course' : Course)
      → FitsInWindows (record claim { bound = bound; bound_ns = bound_ns }) xs course' → FitsInWindows claim xs course'
  other_bound_in_windows course' f = grind (arith, ints, nat_tests, fits, other_bound)

  pub some_fits_any_bound : (r : RefutationData) → pos 0 ≤ℤ claim.reading → (servers : ℕ)
      → All (IsLawfulExchange servers) xs
      → IsRefuted (record claim { bound = bound; bound_ns = bound_ns }) xs r → SomeCourseFits claim xs
  some_fits_any_bound r some servers each refuted =
      let found = some_fits (record claim { bound = bound; bound_ns = bound_ns }) xs r some servers each refuted in
      (found.0, other_bound_in_windows found.0 found.1, found.2)

pub refuted_with_less : (claim : ClaimData) (narrower : ℤ) (drift_ppb : ℕ) (xs : List Exchange) (r : RefutationData)
    → narrower ≤ℤ claim.bound → IsRefuted claim xs r
    → IsRefuted (record claim { bound = narrower; drift_ppb = drift_ppb }) xs r
refuted_with_less claim narrower drift_ppb xs r less h = search rules
