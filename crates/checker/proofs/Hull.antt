-- Why a hull holds the error: from what entries name of a course to the hull of what they say.
use Rattle.checker.proofs.Common.{◌≡◌, ℕ, ◌<◌, ◌≤◌, ℤ, pos, ◌*ℤ◌, ◌≤ℤ◌, Bool, false, List, [], ◌∷◌, length, Option, Some, None, refl, sym, ap, ◌∙◌, subst, arith, All, slice_get, option_map, slice_get-map, ClaimData, IsLawful, HoldsFraction, IsAdmissibleFraction, HullHoldsFraction, IsHull, hull_of, Interval, Hull, Exchange, Moment, error_of, DriftsWithin, DriftsWithinByReading, IsInWindow, IsWithinDistance, IsOffAtLeast, IsOffAtMost, sample_of, least_error, greatest_error, IsLawfulSample, IsRate, billion, request_start, reply_end, Sample, piece_interval_of, IsSaidBy, AreSaidBy, IsOfSamples, Course, Fits, false_group_count, group_intervals, piece_hull, FitsPiece, AreSamplesOf, samples_of, IsObservedIn, IsInHull, HoldsError, HoldsErrorOfPiece, Part, Stretch, All-slice_get, rules, ints, nat_tests}
use Rattle.checker.proofs.Counting.{few_leave_it_out}
use Rattle.checker.proofs.PieceFit.{counts_as_false, count_from_few, true_if_uncounted, fits_piece}
use Rattle.checker.proofs.EntryStatement.{zip_all}

-- the law on the error throughout a piece
abbrev pub PieceLaw : Type 0
PieceLaw =
    (n ppb : ℕ) (low high : Sample) (p q : ℤ) (request reply observed : Moment) → IsRate ppb
    → low.low_from ≤ℤ low.low_to → high.high_from ≤ℤ high.high_to → IsInWindow n p q observed.reading
    → (low.low_from *ℤ pos n) ≤ℤ request.reading
    → IsOffAtLeast n low.low low.low_from request → DriftsWithinByReading ppb request observed
    → reply.reading ≤ℤ (high.high_to *ℤ pos n)
    → IsOffAtMost n high.high high.high_to reply → DriftsWithinByReading ppb reply observed
    → HoldsFraction (piece_interval_of low high p q ppb) (error_of observed) n

-- the laws of the layers below that the argument stands on
pub record Laws : Type 0 where
  pub drift : (ppb : ℕ) (a b : Moment) → ppb ≤ billion → DriftsWithin ppb a b → DriftsWithinByReading ppb a b
  pub request : (x : Exchange) (allowance : ℤ) (n : ℕ) (request : Moment) (received : ℤ)
      → request.time ≤ℤ received → IsWithinDistance n x.t2 x.distance received
      → IsOffAtLeast n (least_error x allowance) (request_start x allowance) request
  pub reply : (x : Exchange) (allowance : ℤ) (n : ℕ) (reply : Moment) (sent : ℤ)
      → sent ≤ℤ reply.time → IsWithinDistance n x.t3 x.distance sent
      → IsOffAtMost n (greatest_error x allowance) (reply_end x allowance) reply
  pub piece : PieceLaw
  pub fine : (list : List Interval) (f : ℕ) (hull : Hull) (e : ℤ) (n : ℕ) → 0 < n
      → IsAdmissibleFraction list f e n → IsHull list f hull → HullHoldsFraction hull e n
  pub hull : (list : List Interval) (f : ℕ) → IsHull list f (hull_of list f)

-- ---- samples and their exchanges

module _ (xs : List Exchange) (claim : ClaimData) (samples : List Sample) where
  -- the exchange that a sample is made of
  pub record MadeOf (k : ℕ) (sample : Sample) : Type 0 where
    pub exchange : Exchange
    pub at : slice_get xs k ≡ Some exchange
    pub is : sample_of exchange claim.reading ≡ sample

  made_from : (k : ℕ) (sample : Sample) (o : Option Exchange) → slice_get xs k ≡ o
      → option_map (λ x. sample_of x claim.reading) o ≡ Some sample → MadeOf k sample
  made_from k sample None at is = absurd cc
  made_from k sample (Some x) at is = search rules

  made_of : (k : ℕ) (sample : Sample) → samples ≡ samples_of xs claim → slice_get samples k ≡ Some sample
      → MadeOf k sample
  made_of k sample made at = made_from k sample (slice_get xs k) refl
      (sym (slice_get-map (λ x. sample_of x claim.reading) xs k)
      ∙ ap (λ (s : List Sample). slice_get s k) (sym made) ∙ at)

-- ---- one course

module _ (laws : Laws) (claim : ClaimData) (samples : List Sample) (lawful : IsLawful claim) (xs : List Exchange)
    (course : Course) (made : samples ≡ samples_of xs claim) (are : AreSamplesOf claim samples) where
  -- the error when the clock is observed
  abbrev error : ℤ
  error = error_of course.observation

  -- a part's interval holds it
  abbrev Holds : Part → Type 0
  Holds part = HoldsFraction part.interval error course.fineness

  by_reading : (moment : Moment) → DriftsWithin claim.drift_ppb moment course.observation
      → DriftsWithinByReading claim.drift_ppb moment course.observation
  by_reading moment drifts = grind (arith, ints, nat_tests)

  -- the sample of an exchange that one is made of keeps its limits
  made_lawful : (k : ℕ) (sample : Sample) (at : slice_get samples k ≡ Some sample)
      → IsLawfulSample (sample_of (made_of xs claim samples k sample made at).exchange claim.reading)
  made_lawful k sample at =
      subst IsLawfulSample (sym (made_of xs claim samples k sample made at).is)
      (All-slice_get IsLawfulSample samples k sample are.lawful at)

  -- a part's server is that of the exchange for its low end
  server_of : (stretch : Stretch) (entry : ℕ × ℕ) (part : Part)
      (said : IsSaidBy samples stretch claim.drift_ppb entry part)
      → (made_of xs claim samples entry.0 said.low made said.low_is).exchange.server ≡ part.server
  server_of stretch entry part said = search rules

  module _ (entries : List (ℕ × ℕ)) (fits : FitsPiece claim xs entries course) (stretch : Stretch)
      (observed : IsObservedIn course stretch.begin stretch.end) where
    -- the interval of two exchanges with a server that isn't false
    exchanges_hold : (j a b : ℕ) (x y : Exchange) → slice_get entries j ≡ Some (a, b) → slice_get xs a ≡ Some x
        → slice_get xs b ≡ Some y → course.is_false x.server ≡ false → course.is_false y.server ≡ false
        → IsLawfulSample (sample_of x claim.reading) → IsLawfulSample (sample_of y claim.reading)
        → HoldsFraction
        (piece_interval_of (sample_of x claim.reading) (sample_of y claim.reading) stretch.begin stretch.end
        claim.drift_ppb)
        error course.fineness
    exchanges_hold j a b x y named at_a at_b true_x true_y lawful_x lawful_y =
        let rate = lawful.drift_in_range in
        let drifts = fits.drift j a b x y named at_a at_b in
        let order = fits.ordered j a b x y named at_a at_b true_x true_y in
        let near = fits.within_root_distance j a b x y named at_a at_b true_x true_y in
        laws.piece course.fineness claim.drift_ppb (sample_of x claim.reading) (sample_of y claim.reading)
        stretch.begin stretch.end (course.request a) (course.reply b) course.observation (omega arith)
        lawful_x.low_window_in_order lawful_y.high_window_in_order observed
        (fits.leaves_after_stamp j a b x y named at_a at_b)
        (laws.request x claim.reading course.fineness (course.request a) (course.received a) order.0 near.0)
        (by_reading (course.request a) drifts.0) (fits.arrives_before_stamp j a b x y named at_a at_b)
        (laws.reply y claim.reading course.fineness (course.reply b) (course.sent b) order.1 near.1)
        (by_reading (course.reply b) drifts.1)

    -- what an entry says holds the error, if its server isn't false
    pub entry_holds : (j : ℕ) (entry : ℕ × ℕ) (part : Part) → slice_get entries j ≡ Some entry
        → IsSaidBy samples stretch claim.drift_ppb entry part → course.is_false part.server ≡ false → Holds part
    entry_holds j entry part named said true' =
        let first = made_of xs claim samples entry.0 said.low made said.low_is in
        let second = made_of xs claim samples entry.1 said.high made said.high_is in
        let x = first.exchange in
        let y = second.exchange in
        let of_x = server_of stretch entry part said in
        let true_x : course.is_false x.server ≡ false = ap course.is_false of_x ∙ true' in
        let true_y : course.is_false y.server ≡ false =
        ap (λ (s : Sample). course.is_false s.server) second.is ∙ ap course.is_false (sym said.one_server)
        ∙ ap (λ (s : Sample). course.is_false s.server) (sym first.is) ∙ true_x in
        let holds = exchanges_hold j entry.0 entry.1 x y named first.at second.at true_x true_y
        (made_lawful entry.0 said.low said.low_is) (made_lawful entry.1 said.high said.high_is) in
        let at_first : (s : Sample) → Type 0 = λ s. HoldsFraction
        (piece_interval_of s (sample_of y claim.reading) stretch.begin stretch.end claim.drift_ppb)
        error course.fineness in
        let at_second : (s : Sample) → Type 0 = λ s. HoldsFraction
        (piece_interval_of said.low s stretch.begin stretch.end claim.drift_ppb) error course.fineness in
        subst Holds (sym said.is) (subst at_second second.is (subst at_first first.is holds))

    -- and an entry's server isn't false if it doesn't count as false
    entry_is_true : (j : ℕ) (entry : ℕ × ℕ) (part : Part) → slice_get entries j ≡ Some entry
        → IsSaidBy samples stretch claim.drift_ppb entry part → part.server < length claim.groups
        → counts_as_false claim xs entries course fits.few_false part.server ≡ false
        → course.is_false part.server ≡ false
    entry_is_true j entry part named said below uncounted =
        let first = made_of xs claim samples entry.0 said.low made said.low_is in
        let second = made_of xs claim samples entry.1 said.high made said.high_is in
        let of_x = server_of stretch entry part said in
        subst (λ (server : ℕ). course.is_false server ≡ false) of_x
        (true_if_uncounted claim xs entries course fits.few_false j entry.0 entry.1 first.exchange second.exchange
        named first.at second.at (subst (λ (server : ℕ). server < length claim.groups) (sym of_x) below)
        (subst (λ (server : ℕ). counts_as_false claim xs entries course fits.few_false server ≡ false) (sym of_x)
        uncounted))

  said_of : (stretch : Stretch) (part : Part) (given : IsOfSamples samples stretch claim.drift_ppb part)
      → IsSaidBy samples stretch claim.drift_ppb (given.low_number, given.high_number) part
  said_of stretch part given = search rules

  lone_holds : (fits : Fits claim xs course) (stretch : Stretch)
      (observed : IsObservedIn course stretch.begin stretch.end) (part : Part)
      → IsOfSamples samples stretch claim.drift_ppb part → course.is_false part.server ≡ false → Holds part
  lone_holds fits stretch observed part given true' =
      let entry : ℕ × ℕ = (given.low_number, given.high_number) in
      entry_holds (entry ∷ []) (fits_piece claim xs (entry ∷ []) course fits) stretch observed 0 entry part refl
      (said_of stretch part given) true'

  -- ---- the hull

  listed_at : (stretch : Stretch) (entry : ℕ × ℕ) (part : Part)
      → IsSaidBy samples stretch claim.drift_ppb entry part → part.server < length claim.groups
  listed_at stretch entry part said =
      omega (
        arith,
        All-slice_get (λ (s : Sample). s.server < length claim.servers) samples entry.0 said.low are.listed
            said.low_is,
        ap (λ (p : Part). p.server) said.is,
      )

  -- the hull of parts that hold the error, but those of a server that is false
  hull_of_parts : (is_false : ℕ → Bool) (parts : List Part) → 0 < course.fineness
      → false_group_count claim.groups is_false ≤ claim.false_max
      → All (λ part. part.server < length claim.groups) parts
      → All (λ part. is_false part.server ≡ false → Holds part) parts
      → IsInHull course (piece_hull claim.groups claim.false_max parts)
  hull_of_parts is_false parts some few listed hold =
      let list = group_intervals claim.groups parts in
      laws.fine list claim.false_max (hull_of list claim.false_max) error course.fineness some
      (few_leave_it_out claim.groups parts is_false error course.fineness listed hold claim.false_max few)
      (laws.hull list claim.false_max)

  pub holds_of_piece : (entries : List (ℕ × ℕ)) (parts : List Part) (stretch : Stretch)
      → FitsPiece claim xs entries course → IsObservedIn course stretch.begin stretch.end
      → AreSaidBy samples stretch claim.drift_ppb entries parts
      → IsInHull course (piece_hull claim.groups claim.false_max parts)
  holds_of_piece entries parts stretch fits observed said =
      let used : ℕ → Bool = counts_as_false claim xs entries course fits.few_false in
      hull_of_parts used parts fits.some_fineness (count_from_few claim xs entries course fits.few_false)
      (zip_all (IsSaidBy samples stretch claim.drift_ppb) (λ part. part.server < length claim.groups) entries parts said
      (λ j entry part named is. listed_at stretch entry part is))
      (zip_all (IsSaidBy samples stretch claim.drift_ppb) (λ part. used part.server ≡ false → Holds part) entries parts
      said
      (λ j entry part named is unused. entry_holds entries fits stretch observed j entry part named is
      (entry_is_true entries fits stretch observed j entry part named is (listed_at stretch entry part is) unused)))

  pub holds_of_capture : (parts : List Part) (stretch : Stretch) → Fits claim xs course
      → IsObservedIn course stretch.begin stretch.end → All (IsOfSamples samples stretch claim.drift_ppb) parts
      → IsInHull course (piece_hull claim.groups claim.false_max parts)
  holds_of_capture parts stretch fits observed of_samples =
      hull_of_parts course.is_false parts fits.some_fineness fits.few_false
      (λ k d below. listed_at stretch _ _ (said_of stretch _ (of_samples k d below)))
      (λ k d below. lone_holds fits stretch observed _ (of_samples k d below))

-- ---- the law

module _ (laws : Laws) (claim : ClaimData) (samples : List Sample) (lawful : IsLawful claim)
    (are : AreSamplesOf claim samples) where
  pub piece_holds : (stretch : Stretch) (entries : List (ℕ × ℕ)) (parts : List Part)
      → AreSaidBy samples stretch claim.drift_ppb entries parts
      → HoldsErrorOfPiece claim samples entries stretch (piece_hull claim.groups claim.false_max parts)
  piece_holds stretch entries parts said xs course made fits observed = search (rules, holds_of_piece)

  pub capture_holds : (stretch : Stretch) (parts : List Part) → All (IsOfSamples samples stretch claim.drift_ppb) parts
      → HoldsError claim samples stretch (piece_hull claim.groups claim.false_max parts)
  capture_holds stretch parts of_samples xs course made fits observed = search (rules, holds_of_capture)
