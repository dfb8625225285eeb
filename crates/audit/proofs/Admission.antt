-- The errors that the entries of an accepted piece admit: there are some, and none is beyond the bound.
use Rattle.std.proofs.Common.{rules}
use Rattle.audit.proofs.Common.{◌≡◌, ℕ, ◌-◌, ◌*◌, ◌<◌, ◌≤◌, ℤ, pos, ◌+ℤ◌, ◌-ℤ◌, ◌*ℤ◌, ◌≤ℤ◌, ◌<ℤ◌, unsigned_abs, Bool, true, false, cond, ◌&&◌, List, length, Option, Some, None, count_by, refl, sym, ap, ◌∙◌, subst, arith, IsSomeAnd, ◌↔◌, slice_get, slice_index, list_any, option_map, cond-true, cond-false, and_parts, and_from, nat_tests, ints, slice_get-map, slice_get_read, IsCeiling, ClaimData, Exchange, Sample, Stretch, samples_of, by_test, MayChangeBy, Admit, ◌==◌}
use Rattle.std.proofs.lemmas.List.Folds.{Any-from_list_any}
use Rattle.std.proofs.lemmas.List.Sums.{sum_by-le-sum_by}
use Rattle.std.proofs.lemmas.Map.Keys.{any_passes_from_place}
use Rattle.std.proofs.lemmas.Slice.Zip.{AllZip-left, AllZip-right}
use Rattle.intersection.specs.Interval.{leaves_out}
use Rattle.intersection.specs.Hull.{IsAdmissible}
use Rattle.sample_interval.specs.Sample.{sample_of}
use Rattle.sample_interval.specs.Widening.{IsWidening, widening, billion}
use Rattle.span_cover.specs.Group.{numbers_below, group_interval, group_intervals}
use Rattle.span_cover.specs.Part.{part_of}
use Rattle.span_cover.specs.Piece.{moved_low, moved_high}
use Rattle.span_cover.specs.declared.part.Part.{Part}
use Rattle.checker.specs.Acceptance.{IsSaidBy, ShowBound}
use Rattle.checker.proofs.Separation.{passes, group_passes, counted, held_ends, held_test, meet_leaves_it_out}
use Rattle.checker.proofs.PieceFit.{all_numbers}
use Rattle.cover_checker.proofs.Admission.{from_reach, in_reach, size_within}
use Rattle.audit.proofs.RecordFrames.{mapped}

-- ---- lists

-- a value of which something holds
some_with : {A : Type 0} (P : A → Type 0) (o : Option A) → IsSomeAnd o P → (x : A) × (o ≡ Some x) × P x
some_with P None h = absurd h
some_with P (Some x) h = (x, refl, h)

-- ---- ends

low_over : (l e : ℤ) (w : ℕ) → ((l -ℤ pos w) ≤ℤ e) ↔ ((l -ℤ e) ≤ℤ pos w)
low_over l e w = (λ h. omega (arith, ints), λ h. omega (arith, ints))

high_over : (e l : ℤ) (w : ℕ) → (e ≤ℤ (l +ℤ pos w)) ↔ ((e -ℤ l) ≤ℤ pos w)
high_over e l w = (λ h. omega (arith, ints), λ h. omega (arith, ints))

-- ---- one entry

-- the law on widenings
abbrev pub WideningLaw : Type 0
WideningLaw = (ppb distance : ℕ) → ppb < billion → IsWidening ppb distance (widening ppb distance)

module _ (widenings : WideningLaw) (claim : ClaimData) (rate : claim.drift_ppb ≤ 500000000)
    (begin end error : ℤ) where
  -- room on the side of the request, and of the reply
  abbrev LowRoom : Exchange → Type 0
  LowRoom x = MayChangeBy claim (x.t1_low -ℤ claim.reading) (x.t1_high +ℤ claim.reading) begin end
      (x.t1_low -ℤ claim.reading -ℤ x.t2 -ℤ x.distance -ℤ error)

  abbrev HighRoom : Exchange → Type 0
  HighRoom y = MayChangeBy claim (y.t4_low -ℤ claim.reading) (y.t4_high +ℤ claim.reading) begin end
      (error -ℤ (y.t4_high +ℤ claim.reading -ℤ y.t3 +ℤ y.distance))

  widened : (distance : ℕ)
      → IsCeiling (claim.drift_ppb * distance) (billion - claim.drift_ppb) (widening claim.drift_ppb distance)
  widened distance = widenings claim.drift_ppb distance (omega (arith, rate))

  -- what is no more than the widening may be
  reached : (far : ℕ) (z : ℤ) → (z ≤ℤ pos (widening claim.drift_ppb far))
      ↔ (((z -ℤ pos 1) *ℤ pos (billion - claim.drift_ppb)) <ℤ pos (claim.drift_ppb * far))
  reached far z = grind (arith, in_reach, billion, widening, widened, from_reach)

  low_room : (x : Exchange) → (moved_low (sample_of x claim.reading) begin end claim.drift_ppb ≤ℤ error) ↔ LowRoom x
  unfolding moved_low
  low_room x = grind (arith, reached, widening, low_over)

  high_room : (y : Exchange) → (error ≤ℤ moved_high (sample_of y claim.reading) begin end claim.drift_ppb) ↔ HighRoom y
  unfolding moved_high
  high_room y = grind (arith, reached, widening, high_over)

-- ---- all entries

module _ (widenings : WideningLaw) (claim : ClaimData) (rate : claim.drift_ppb ≤ 500000000) (xs : List Exchange)
    (stretch : Stretch) (entries : List (ℕ × ℕ))
    (shown : ShowBound (samples_of xs claim) claim stretch entries) where
  abbrev Said : ℕ × ℕ → Part → Type 0
  Said entry part = IsSaidBy (samples_of xs claim) stretch claim.drift_ppb entry part

  -- the sample of an exchange
  sample_is : (k : ℕ) (x : Exchange) (s : Sample) → slice_get xs k ≡ Some x
      → slice_get (samples_of xs claim) k ≡ Some s → sample_of x claim.reading ≡ s
  sample_is k x s at found = grind (arith, sample_of, slice_get-map, option_map)

  exchange_at : (k : ℕ) (s : Sample) → slice_get (samples_of xs claim) k ≡ Some s
      → (x : Exchange) × (slice_get xs k ≡ Some x) × (sample_of x claim.reading ≡ s)
  exchange_at k s found = grind (arith, mapped, sample_of, slice_get, slice_get-map)

  -- the part that an entry of two exchanges says
  part_is : (a b : ℕ) (x y : Exchange) (part : Part) → slice_get xs a ≡ Some x → slice_get xs b ≡ Some y
      → Said (a, b) part
      → part ≡ part_of (sample_of x claim.reading) (sample_of y claim.reading) stretch claim.drift_ppb
  part_is a b x y part at_a at_b said = grind (arith, part_of, sample_is, sample_of)

  -- that part is of the first one's server, and holds an error exactly if both leave room for it
  rooms : (a b : ℕ) (x y : Exchange) (part : Part) (error : ℤ) → slice_get xs a ≡ Some x → slice_get xs b ≡ Some y
      → Said (a, b) part → (part.server ≡ x.server) × ((leaves_out part.interval error ≡ false)
      ↔ (LowRoom widenings claim rate stretch.begin stretch.end error x
      × HighRoom widenings claim rate stretch.begin stretch.end error y))
  rooms a b x y part error at_a at_b said =
      let is = part_is a b x y part at_a at_b said in
      let low = low_room widenings claim rate stretch.begin stretch.end error x in
      let high = high_room widenings claim rate stretch.begin stretch.end error y in (
        ap (λ (p : Part). p.server) is,
        (
          λ held. let ends = held_ends part.interval error held in (low.0 (rw is at ends.0), high.0 (rw is at ends.1)),
          λ room. held_test part.interval error (rw is (low.1 room.0)) (rw is (high.1 room.1)),
        ),
      )

  -- a part of a group, which leaves a point out
  abbrev in_group : ℤ → ℕ → Part → Bool
  in_group point g part = (slice_index claim.groups part.server == g) && leaves_out part.interval point

  abbrev group_leaves_out : ℤ → ℕ → Bool
  group_leaves_out point g = passes (λ i. leaves_out i point) (group_interval claim.groups shown.parts g)

  group_is : (point : ℤ) (g : ℕ)
      → group_leaves_out point g ≡ list_any (in_group point g) shown.parts
  group_is point g = group_passes (λ i. leaves_out i point) (meet_leaves_it_out point) claim.groups shown.parts g

  count_is : (point : ℤ) → count_by (λ i. leaves_out i point) (group_intervals claim.groups shown.parts)
      ≡ count_by (group_leaves_out point) (numbers_below (length claim.groups))
  count_is point = grind (arith, counted, leaves_out, meet_leaves_it_out, group_interval, numbers_below, length)

  -- a part of a group that doesn't leave a point out holds it
  part_holds : (point : ℤ) (g j : ℕ) (part : Part) → slice_get shown.parts j ≡ Some part
      → slice_index claim.groups part.server ≡ g → group_leaves_out point g ≡ false
      → leaves_out part.interval point ≡ false
  part_holds point g j part at is held = search (rules, by_test, any_passes_from_place, and_from, group_is)

  -- the least admissible error is admitted
  pub some_admitted : Admit claim xs entries stretch.begin stretch.end shown.lo
  some_admitted = record {
    is_wrong = group_leaves_out shown.lo;
    few = subst (λ (l : List ℕ). count_by (group_leaves_out shown.lo) l ≤ claim.false_max)
        (all_numbers (length claim.groups))
        (let few = shown.hull.1.0 in let same = count_is shown.lo in omega (arith, few, same));
    room = λ j a b x y named at_a at_b fine.
        let (part, at, said) = some_with (Said (a, b)) (slice_get shown.parts j)
        (rw named at (AllZip-left Said entries shown.parts shown.said j)) in
        let (server, holds) = rooms a b x y part shown.lo at_a at_b said in
        holds.0 (part_holds shown.lo (slice_index claim.groups x.server) j part at
        (ap (slice_index claim.groups) server) fine);
  }

  module _ (error : ℤ) (admit : Admit claim xs entries stretch.begin stretch.end error) where
    -- a part of a group that isn't wrong holds the error
    admitted_by : (j : ℕ) (part : Part) → slice_get shown.parts j ≡ Some part
        → admit.is_wrong (slice_index claim.groups part.server) ≡ false → leaves_out part.interval error ≡ false
    admitted_by j part at fine =
        let (entry, there, said) = some_with (λ entry. Said entry part) (slice_get entries j)
        (rw at at (AllZip-right Said entries shown.parts shown.said j)) in
        let (x, x_at, _) = exchange_at entry.0 said.low said.low_is in
        let (y, y_at, _) = exchange_at entry.1 said.high said.high_is in
        let (server, holds) = rooms entry.0 entry.1 x y part error x_at y_at said in
        holds.1 (admit.room j entry.0 entry.1 x y there x_at y_at
        (ap (λ (s : ℕ). admit.is_wrong (slice_index claim.groups s)) (sym server) ∙ fine))

    -- so a group that leaves it out is wrong
    out_is_wrong : (g : ℕ) → group_leaves_out error g ≡ true → admit.is_wrong g ≡ true
    out_is_wrong g out = by_test (admit.is_wrong g)
        (λ wrong. wrong)
        (λ fine.
        let found = Any-from_list_any (in_group error g) shown.parts (sym (group_is error g) ∙ out) in
        let part = found.1 in
        let tests = and_parts (slice_index claim.groups part.server == g) (leaves_out part.interval error) found.4 in
        let at = slice_get_read shown.parts (length shown.parts) found.0 part refl found.2 (sym found.3) in
        let group : slice_index claim.groups part.server ≡ g =
        (let test = tests.0 in grind (arith, nat_tests)) in
        let held = admitted_by found.0 part at (ap admit.is_wrong group ∙ fine) in
        let never : true ≡ false = sym tests.1 ∙ held in
        absurd cc)

    no_more_at : (g : ℕ) → cond (group_leaves_out error g) 1 0 ≤ cond (admit.is_wrong g) 1 0
    no_more_at g = grind (arith, by_test, cond-true, out_is_wrong, cond-false)

    admissible : IsAdmissible (group_intervals claim.groups shown.parts) claim.false_max error
    admissible =
        omega (
          arith,
          numbers_below (length claim.groups),
          subst (λ (l : List ℕ). count_by admit.is_wrong l ≤
              claim.false_max) (sym (all_numbers (length claim.groups))) admit.few,
          count_is error,
          sum_by-le-sum_by (λ g.
              cond (group_leaves_out error g) 1 0) (λ g. cond (admit.is_wrong g) 1 0) (numbers_below (length claim.groups))
              no_more_at,
        )

    -- an error that is admitted is within the bound
    pub none_beyond : pos (unsigned_abs error) ≤ℤ claim.bound
    none_beyond = grind (arith, admissible, size_within)
