-- One course for two lists of exchanges: what is shown and what is contested never meet.
use Rattle.audit.proofs.Common.{◌≡◌, ℕ, inl, inr, List, length, Option, Some, None, refl, sym, ap, ◌∙◌, subst, slice_get, slice_get_within, ClaimData, Exchange, Moment, Course, Fits, IsClientMoment, IsAmong, SameExchange, slice_get-below}

module _ (xs ys : List Exchange) (among : (k : ℕ) (x : Exchange) → slice_get xs k ≡ Some x → IsAmong ys x) where
  -- the second list has this exchange here
  abbrev HasAt : ℕ → Exchange → Type 0
  HasAt n x = (y : Exchange) × (slice_get ys n ≡ Some y) × SameExchange x y

  found_from : (k : ℕ) (o : Option Exchange) → slice_get xs k ≡ o → (n : ℕ) × ((x : Exchange) → o ≡ Some x → HasAt n x)
  found_from k None at = (0, λ x is. absurd cc)
  found_from k (Some z) at =
      let found = among k z at in (
        found.place,
        λ x is.
            let same : z ≡ x = cc in
            (found.found, found.stands, subst (λ (e : Exchange). SameExchange e found.found) same found.same),
      )

  -- where the second list has the exchange that the first has here
  pub place : ℕ → ℕ
  place k = (found_from k (slice_get xs k) refl).0

  has : (k : ℕ) (x : Exchange) → slice_get xs k ≡ Some x → HasAt (place k) x
  unfolding place
  has k = (found_from k (slice_get xs k) refl).1

  -- the course of the second list, by the numbers of the first
  abbrev pub renumbered : Course → Course
  renumbered course = record {
    fineness = course.fineness;
    is_false = course.is_false;
    request = λ k. course.request (place k);
    received = λ k. course.received (place k);
    sent = λ k. course.sent (place k);
    reply = λ k. course.reply (place k);
    observation = course.observation;
  }

  moment_of : (course : Course) (moment : Moment) → IsClientMoment (renumbered course) (length xs) moment
      → IsClientMoment course (length ys) moment
  moment_of course moment (inl is) = inl is
  moment_of course moment (inr (k, below, which)) =
      let (x, at) = slice_get-below xs k below in
      let there = has k x at in
      inr (place k, slice_get_within ys (place k) there.0 there.1, which)

  -- if it fits the second list, it fits the first
  pub still_fits : (claim : ClaimData) (course : Course) → Fits claim ys course → Fits claim xs (renumbered course)
  still_fits claim course fits = record {
    some_fineness = fits.some_fineness;
    few_false = fits.few_false;
    leaves_after_stamp = λ k x at.
        let there = has k x at in rw there.2.t1_low (fits.leaves_after_stamp (place k) there.0 there.1);
    arrives_before_stamp = λ k x at.
        let there = has k x at in rw there.2.t4_high (fits.arrives_before_stamp (place k) there.0 there.1);
    drift = λ a b is_a is_b. fits.drift a b (moment_of course a is_a) (moment_of course b is_b);
    ordered = λ k x at true'.
        let there = has k x at in
        fits.ordered (place k) there.0 there.1 (ap course.is_false (sym there.2.server) ∙ true');
    within_root_distance = λ k x at true'.
        let there = has k x at in
        rw (← there.2.t2, ← there.2.t3, ← there.2.distance) at
        (fits.within_root_distance (place k) there.0 there.1 (ap course.is_false (sym there.2.server) ∙ true'));
  }
