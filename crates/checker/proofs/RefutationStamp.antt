-- What a course that a refutation stands for says about the stamps and the claim.
use Rattle.checker.proofs.Common.{◌≡◌, ℕ, ◌*◌, ◌<◌, ℤ, pos, ◌+ℤ◌, ◌-ℤ◌, ◌*ℤ◌, ◌≤ℤ◌, ◌<ℤ◌, unsigned_abs, false, inl, inr, List, Some, refl, sym, arith, slice_get, slice_index_or, ints, slice_get-get_or, slice_get_within, RefutationData, ClaimData, times_le, times-add, Exchange, Moment, error_of, request_start, reply_end, Course, is_liar, AdmitsError, Admits, IsAgainst, IsRefuted, IsCourseOf, ShowsThroughout, IsObservedIn, IsWithin, le_from_times, ≤ℤ_trans, ≤ℤ_trans_twice, unsigned_abs-mul}

-- ---- what a course says about the stamps

unshifted : (a b e : ℤ) → (a -ℤ e) ≤ℤ (b -ℤ e) → a ≤ℤ b
unshifted a b e h = omega (arith, ints)

not_both : (a b : ℤ) → a <ℤ b → b ≤ℤ a → ⊥
not_both a b p q = omega (arith, ints)

-- n times a difference or a sum, and n times its parts
minus_times : (a b : ℤ) (n : ℕ) → ((a *ℤ pos n) -ℤ (b *ℤ pos n)) ≡ ((a -ℤ b) *ℤ pos n)
minus_times a b n = let sum = times-add a (a -ℤ b) b n (omega (arith, ints)) in omega (arith, ints)

plus_times : (a b : ℤ) (n : ℕ) → ((a *ℤ pos n) +ℤ (b *ℤ pos n)) ≡ ((a +ℤ b) *ℤ pos n)
plus_times a b n = sym (times-add (a +ℤ b) a b n refl)

-- moments one after another, with a clock that is off by an error at the first and the last
module _ (start end t2 t3 distance error : ℤ) (request reply : Moment) (received sent : ℤ)
    (off_first : error_of request ≡ error) (off_last : error_of reply ≡ error)
    (from : start ≤ℤ request.reading) (to : reply.reading ≤ℤ end)
    (order : (request.time ≤ℤ received) × (received ≤ℤ sent) × (sent ≤ℤ reply.time))
    (near_first : pos (unsigned_abs (received -ℤ t2)) ≤ℤ distance)
    (near_last : pos (unsigned_abs (sent -ℤ t3)) ≤ℤ distance) where
  near : (stamp time : ℤ) → pos (unsigned_abs (time -ℤ stamp)) ≤ℤ distance
      → ((stamp -ℤ distance) ≤ℤ time) × (time ≤ℤ (stamp +ℤ distance))
  near stamp time h = (omega (arith, ints, h), omega (arith, ints, h))

  scaled_room : AdmitsError start end t2 t3 distance error
  scaled_room =
      let (o1, o2, o3) = order in
      let leaves : (start -ℤ error) ≤ℤ request.time = omega (arith, ints, off_first, from) in
      let arrives : reply.time ≤ℤ (end -ℤ error) = omega (arith, ints, off_last, to) in
      let (receipt_from, receipt_to) = near t2 received near_first in
      let (answer_from, answer_to) = near t3 sent near_last in
      record {
        leaves_before_receipt = ≤ℤ_trans_twice _ _ _ _ leaves o1 receipt_to;
        leaves_before_answer = ≤ℤ_trans_twice _ _ _ _ leaves o1 (≤ℤ_trans _ _ _ o2 answer_to);
        leaves_before_arrival = unshifted start end error
            (≤ℤ_trans_twice _ _ _ _ leaves o1 (≤ℤ_trans_twice _ _ _ _ o2 o3 arrives));
        receives_before_answer = ≤ℤ_trans_twice _ _ _ _ receipt_from o2 answer_to;
        receives_before_arrival = ≤ℤ_trans_twice _ _ _ _ receipt_from o2 (≤ℤ_trans _ _ _ o3 arrives);
        answers_before_arrival = ≤ℤ_trans_twice _ _ _ _ answer_from o3 arrives;
      }

-- room n times over is room
module _ (start end t2 t3 distance error : ℤ) (n : ℕ) (some : 0 < n) where
  room_once : AdmitsError (start *ℤ pos n) (end *ℤ pos n) (t2 *ℤ pos n) (t3 *ℤ pos n) (distance *ℤ pos n)
      (error *ℤ pos n)
      → AdmitsError start end t2 t3 distance error
  room_once h = record {
    leaves_before_receipt = le_from_times _ _ n some
        (rw (minus_times start error n, plus_times t2 distance n) at h.leaves_before_receipt);
    leaves_before_answer = le_from_times _ _ n some
        (rw (minus_times start error n, plus_times t3 distance n) at h.leaves_before_answer);
    leaves_before_arrival = le_from_times _ _ n some h.leaves_before_arrival;
    receives_before_answer = le_from_times _ _ n some
        (rw (minus_times t2 distance n, plus_times t3 distance n) at h.receives_before_answer);
    receives_before_arrival = le_from_times _ _ n some
        (rw (minus_times t2 distance n, minus_times end error n) at h.receives_before_arrival);
    answers_before_arrival = le_from_times _ _ n some
        (rw (minus_times t3 distance n, minus_times end error n) at h.answers_before_arrival);
  }

module _ (claim : ClaimData) (xs : List Exchange) (r : RefutationData) (against : IsAgainst claim r)
    (course : Course) (shows : ShowsThroughout claim xs r course) where
  course_admits : (k : ℕ) (x : Exchange) → slice_get xs k ≡ Some x → is_liar r.liars x.server ≡ false
      → Admits claim.reading r.error x
  course_admits k x at true' =
      let n = course.fineness in
      let w = request_start x claim.reading in
      let z = reply_end x claim.reading in
      let listed = slice_get_within xs k x at in
      let fits = shows.fits in
      let not_false : course.is_false x.server ≡ false = shows.others_true x.server true' in
      let near = fits.within_root_distance k x at not_false in
      room_once w z x.t2 x.t3 x.distance r.error n fits.some_fineness
      (scaled_room (w *ℤ pos n) (z *ℤ pos n) (x.t2 *ℤ pos n) (x.t3 *ℤ pos n) (x.distance *ℤ pos n) (r.error *ℤ pos n)
      (course.request k) (course.reply k) (course.received k) (course.sent k)
      (shows.one_error (course.request k) (inr (k, listed, inl refl)))
      (shows.one_error (course.reply k) (inr (k, listed, inr refl)))
      (fits.leaves_after_stamp k x at) (fits.arrives_before_stamp k x at) (fits.ordered k x at not_false) near.0 near.1)

  pub refuted_by_course : IsRefuted claim xs r
  refuted_by_course = record {
    against = against;
    admits = λ k d below true'. course_admits k (slice_index_or xs k d) (slice_get-get_or xs k d below) true';
  }

-- ---- the course breaks the claim

module _ (claim : ClaimData) (xs : List Exchange) (r : RefutationData) (course : Course)
    (against : IsAgainst claim r) (of : IsCourseOf claim xs r course) where
  pub course_in_span : IsObservedIn course claim.first claim.last
  course_in_span =
      let span = against.in_span in
      let n = course.fineness in
      rw of.observed (times_le claim.first (pos r.reading) n span.0, times_le (pos r.reading) claim.last n span.1)

  pub course_beyond_bound : IsWithin course claim.bound → ⊥
  course_beyond_bound within' =
      let n = course.fineness in
      let error = of.off_throughout.one_error course.observation (inl refl) in
      let abs : pos (unsigned_abs r.error * n) ≤ℤ (claim.bound *ℤ pos n) =
      rw (error, unsigned_abs-mul r.error (pos n)) at within' in
      let scaled : (pos (unsigned_abs r.error) *ℤ pos n) ≡ pos (unsigned_abs r.error * n) = omega (arith, ints) in
      let near = le_from_times (pos (unsigned_abs r.error)) claim.bound n of.fits.fits.some_fineness (rw scaled abs) in
      not_both claim.bound (pos (unsigned_abs r.error)) against.beyond_bound near

pub ruleset course_breaks_claim = (course_in_span, course_beyond_bound)
