-- What the groups outside a cover say holds the error of each course in which those of the cover are false.
use Rattle.finder.proofs.Common.{◌≡◌, ℕ, zero, suc, ◌+◌, ◌-◌, ◌*◌, ◌/◌, ◌<◌, ◌≤◌, ℤ, pos, neg_ℤ, ◌*ℤ◌, unsigned_abs, Bool, true, false, not, ◌&&◌, ◌==◌, List, [], ◌∷◌, length, get_or, refl, sym, ap, ◌∙◌, arith, ints, clamps, nat_tests, ⊎_elim, All, All-filter, filter, count_by, slice_index, and_parts, and_from, Any-from_list_any, list_any-from_Any, ClaimData, IsLawful, Hull, Unbounded, Empty, Bounded, Exchange, Course, Sample, Part, Stretch, holds_false, false_group_count, numbers_below, best_entries, parts_named, group_intervals, IsOfSamples, AreSamplesOf, samples_of, IsObservedIn, HasFalse, IsInSpan, NeedsAtMost, NoneNeedsMore, has_say, hull_without, next_tick, stretch_over, tick_without, All-slice_get, not-true}
use Rattle.std.proofs.lemmas.List.Elements.{filter_passes}
use Rattle.std.specs.Prelude.{nat_lt}
use Rattle.intersection.specs.Fineness.{times_le}
use Rattle.intersection.specs.Fraction.{HoldsFraction}
use Rattle.intersection.specs.Hull.{hull_of}
use Rattle.sample_interval.specs.Moment.{error_of, IsInWindow}
use Rattle.pairing.specs.Exchange.{IsLawful as IsLawfulExchange}
use Rattle.checker.specs.Course.{Fits}
use Rattle.checker.specs.Traceability.{IsInHull, IsWithin}
use Rattle.intersection.proofs.EndPoints.{IsHull-hull_of}
use Rattle.intersection.proofs.Fractions.{hull_is_fine}
use Rattle.checker.proofs.Counting.{few_leave_it_out}
use Rattle.checker.proofs.Hull.{entry_holds}
use Rattle.checker.proofs.Narrow.{of_samples}
use Rattle.finder.proofs.Known.{hull_laws}
use Rattle.checker.proofs.PieceFit.{fits_piece}
use Rattle.feasibility.specs.Members.{passing}
use Rattle.feasibility.proofs.CoverCounts.{passing_same, passing_split}
use Rattle.feasibility.proofs.CoverList.{passing_within}
use Rattle.feasibility.proofs.CoverWithin.{passing_below}
use Rattle.finder.proofs.HeldError.{few_false}
use Rattle.finder.proofs.Nearest.{int_cases}
use Rattle.finder.proofs.Verdict.{entries_accepted}

-- ---- groups outside a cover that hold a false server

both : (a b : Bool) → a ≡ true → (b && a) ≡ b
both true true is = refl
both true false is = refl
both false b is = absurd cc

absorbs : (a b : Bool) → (b ≡ true → a ≡ true) → (a && b) ≡ b
absorbs true true is = refl
absorbs true false is = refl
absorbs false true is = is refl
absorbs false false is = refl

module _ (groups : List ℕ) (cover : ℕ → Bool) (is_false : ℕ → Bool) where
  -- the server is false, and its group isn't one of the cover
  abbrev pub false_outside : ℕ → Bool
  false_outside server = is_false server && not (cover (slice_index groups server))

  outside : (k : ℕ) → holds_false groups false_outside k ≡ true
      → (holds_false groups is_false k ≡ true) × (cover k ≡ false)
  outside k is =
      let found = Any-from_list_any (λ s. (slice_index groups s == k) && false_outside s)
      (numbers_below (length groups)) is in
      let s : ℕ = found.1 in
      let tests = and_parts (slice_index groups s == k) (false_outside s) found.4 in
      let inner = and_parts (is_false s) (not (cover (slice_index groups s))) tests.1 in
      let of_group = tests.0 in
      let here : slice_index groups s ≡ k = grind (arith, nat_tests, of_group) in (
        list_any-from_Any (λ s. (slice_index groups s == k) && is_false s) (numbers_below (length groups))
            (found.0, s, found.2, found.3, and_from (slice_index groups s == k) (is_false s) of_group inner.0),
        not-true (cover k) (ap (λ (g : ℕ). not (cover g)) (sym here) ∙ inner.1),
      )

module _ (claim : ClaimData) (lawful : IsLawful claim) (xs : List Exchange)
    (each : All (IsLawfulExchange (length claim.servers)) xs) (cover : ℕ → Bool) (course : Course)
    (fits : Fits claim xs course) (false' : HasFalse claim cover course) where
  -- they are as few as may be false besides the cover
  few_outside : false_group_count claim.groups (false_outside claim.groups cover course.is_false)
      ≤ claim.false_max - count_by cover (numbers_below 32)
  unfolding passing
  few_outside =
      let false_in : ℕ → Bool = holds_false claim.groups course.is_false in
      let left : ℕ → Bool = holds_false claim.groups (false_outside claim.groups cover course.is_false) in
      let below = passing_below left (length claim.groups) (omega arith) in
      let within = passing_within (λ k. left k && nat_lt k (length claim.groups)) (λ k. false_in k && not (cover k))
      (λ k is.
      let there = outside claim.groups cover course.is_false k
      (and_parts (left k) (nat_lt k (length claim.groups)) is).0 in
      and_from (false_in k) (not (cover k)) there.0 (ap not there.1)) in
      let split = passing_split false_in cover in
      let all = passing_same (λ k. false_in k && cover k) cover (λ k. absorbs (false_in k) (cover k) (false' k)) in
      omega (arith, below, within, split, all, few_false claim lawful xs each course fits)

-- ---- the tick of a reading

module _ (samples : List Sample) (claim : ClaimData) (lawful : IsLawful claim) (n : ℕ) (some : 0 < n) (r : ℤ)
    (within : IsInWindow n claim.first claim.last r) where
  abbrev tick : ℕ
  tick = unsigned_abs r / n

  record IsInTick : Type 0 where
    pub from : tick * n ≤ unsigned_abs r
    pub to : unsigned_abs r < (tick + 1) * n

  in_tick : IsInTick
  in_tick = record { from = omega arith; to = omega arith }

  from_zero : pos (unsigned_abs r) ≡ r
  from_zero = omega (arith, ints, times_le (pos 0) claim.first n lawful.span_begins)

  -- a reading of the span lies in one of its ticks
  tick_of : (p : ℤ) × IsInSpan claim p × IsInWindow n p (next_tick samples claim p) r
  tick_of =
      let is = in_tick in
      let same = from_zero in
      let to = within.1 in
      let forward = lawful.span_forward in
      ⊎_elim
      (λ before. (
        pos tick,
        record {
          from_first = ⊎_elim
              (λ less. absurd (let up = times_le (pos (tick + 1)) claim.first n (omega (arith, ints, less)) in
              omega (arith, ints, up, same)))
              (λ le. le)
              (int_cases (pos tick) claim.first);
          to_last = omega (arith, ints, before);
        },
        (
          omega (arith, ints, same),
          (let next : next_tick samples claim (pos tick) ≡ pos (tick + 1) = omega (arith, ints, clamps, before) in
              rw next (omega (arith, ints, same))),
        ),
      ))
      (λ after. (
        claim.last,
        record { from_first = forward; to_last = omega (arith, ints) },
        (
          (let up = times_le claim.last (pos tick) n after in omega (arith, ints, up, same)),
          (let next : next_tick samples claim claim.last ≡ claim.last = omega (arith, ints, clamps) in rw next to),
        ),
      ))
      (int_cases (pos tick) claim.last)

-- ---- the hull

module _ (claim : ClaimData) (lawful : IsLawful claim) (xs : List Exchange)
    (each : All (IsLawfulExchange (length claim.servers)) xs) (are : AreSamplesOf claim (samples_of xs claim))
    (cover : ℕ → Bool) (course : Course) (fits : Fits claim xs course) (false' : HasFalse claim cover course) where
  abbrev samples : List Sample
  samples = samples_of xs claim

  part_holds : (stretch : Stretch) → IsObservedIn course stretch.begin stretch.end → (part : Part)
      → IsOfSamples samples stretch claim.drift_ppb part → course.is_false part.server ≡ false
      → HoldsFraction part.interval (error_of course.observation) course.fineness
  part_holds stretch observed part given true' =
      let entry : ℕ × ℕ = (given.low_number, given.high_number) in
      entry_holds hull_laws claim samples lawful xs course refl are (entry ∷ [])
      (fits_piece claim xs (entry ∷ []) course fits) stretch observed 0 entry part refl
      (record {
        low = given.low;
        high = given.high;
        low_is = given.low_is;
        high_is = given.high_is;
        one_server = given.one_server;
        is = given.is;
      })
      true'

  listed : (stretch : Stretch) (part : Part) → IsOfSamples samples stretch claim.drift_ppb part
      → part.server < length claim.groups
  listed stretch part given =
      grind (
        arith,
        ints,
        nat_tests,
        All-slice_get (λ (s : Sample). s.server < length claim.servers) samples
            given.low_number given.low are.listed given.low_is,
      )

  pub error_in_hull : (stretch : Stretch) → IsObservedIn course stretch.begin stretch.end
      → IsInHull course (hull_without samples claim cover stretch)
  unfolding hull_without
  error_in_hull stretch observed =
      let entries = best_entries samples claim stretch in
      let all = parts_named samples claim stretch entries in
      let test = has_say claim.groups cover in
      let parts = filter test all in
      let said = All-filter test (IsOfSamples samples stretch claim.drift_ppb) all
      (of_samples samples stretch claim.drift_ppb entries all (entries_accepted samples claim stretch)) in
      let passes = filter_passes test all in
      let left = claim.false_max - count_by cover (numbers_below 32) in
      let list = group_intervals claim.groups parts in
      hull_is_fine list left (hull_of list left) (error_of course.observation) course.fineness fits.some_fineness
      (few_leave_it_out claim.groups parts (false_outside claim.groups cover course.is_false)
      (error_of course.observation) course.fineness
      (λ k d below. listed stretch (get_or parts k d) (said k d below))
      (λ k d below uncounted. part_holds stretch observed (get_or parts k d) (said k d below)
      (sym (both (not (cover (slice_index claim.groups (get_or parts k d).server)))
      (course.is_false (get_or parts k d).server) (passes k d below)) ∙ uncounted))
      left (few_outside claim lawful xs each cover course fits false'))
      (IsHull-hull_of list left)

  -- ---- the neediest tick

  within_need : (hull : Hull) (most : ℕ) → NeedsAtMost most hull → IsInHull course hull → IsWithin course (pos most)
  within_need Unbounded most need held = absurd need
  within_need Empty most need held = absurd held
  within_need (Bounded lo hi) most need held =
      let n = course.fineness in
      let low = times_le (neg_ℤ (pos most)) lo n (omega (arith, ints, clamps, need)) in
      omega (arith, ints, low, times_le hi (pos most) n (omega (arith, ints, clamps, need)), neg_times most n)
    where
      neg_times : (b n : ℕ) → (neg_ℤ (pos b) *ℤ pos n) ≡ neg_ℤ (pos (b * n))
      neg_times zero n = omega (arith, ints)
      neg_times (suc b) n = omega (arith, ints)

  pub within_most : (most : ℕ) → NoneNeedsMore samples claim cover most
      → IsObservedIn course claim.first claim.last → IsWithin course (pos most)
  within_most most none observed =
      let at = tick_of samples claim lawful course.fineness fits.some_fineness course.observation.reading observed in
      within_need (tick_without samples claim cover at.0) most (none at.0 at.1)
      (error_in_hull (stretch_over at.0 (next_tick samples claim at.0)) at.2)
