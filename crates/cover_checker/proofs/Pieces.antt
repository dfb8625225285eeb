-- Entries, conflicts and cases of an accepted certificate, in a course that fits what it names.
use Rattle.cover_checker.proofs.Common.{◌≡◌, ℕ, suc, ◌<◌, ℤ, pos, neg_ℤ, ◌*ℤ◌, ◌≤ℤ◌, ◌-◌, unsigned_abs, inl, inr, ⊎_elim, Bool, true, false, not, ◌&&◌, ◌||◌, List, [], ◌∷◌, Some, length, refl, sym, ap, ◌∙◌, subst, arith, ints, or_parts, slice_get, slice_index, All, All-slice_get, by_test, times-add, times_le, CaseData, ClaimData, IsLawful, Course, Exchange, IsLawfulExchange, Part, Stretch, Bounded, HoldsFraction, IsHull, IsInHull, IsObservedIn, IsWithin, LieWithin, error_of, FitsNamed, IsNamedMoment, HoldsCase, HoldsEnd, IsConflict, ShowBound, group_intervals, group_of, high_mark, low_mark, names, part_of, size_of}
use Rattle.intersection.specs.declared.kinds.Hull.{Hull}
use Rattle.checker.proofs.Counting.{few_leave_it_out}
use Rattle.feasibility.proofs.Covers.{few_by_cover}
use Rattle.feasibility.proofs.KeptMarks.{kept_are_compatible}
use Rattle.intersection.proofs.Fractions.{hull_is_fine}
use Rattle.cover_checker.proofs.Counts.{fewer_outside}
use Rattle.cover_checker.specs.Hull.{IsSaid}
use Rattle.cover_checker.proofs.Entries.{all_said}
use Rattle.cover_checker.proofs.Named.{is_reply, is_request, keeps_high, keeps_low, possible, true_if_right}
use Rattle.cover_checker.proofs.Stretches.{HasCeilings, high_stays, low_stays}

-- the case that a set of groups holds
pub held_case : (cases : List CaseData) (is_in : ℕ → Bool) → HoldsCase cases is_in
    → (c : ℕ) × (case : CaseData) × (slice_get cases c ≡ Some case) × LieWithin (names case) is_in
held_case [] is_in held = absurd held
held_case (case ∷ cases) is_in (inl within) = (0, case, refl, within)
held_case (case ∷ cases) is_in (inr later) =
    let found = held_case cases is_in later in (suc found.0, found.1, found.2, found.3)

right_if : (a b : Bool) → (a && not b) ≡ false → b ≡ false → a ≡ false
right_if true true h out = absurd cc
right_if true false h out = h
right_if false b h out = refl

inside : (bound : ℤ) (n : ℕ) (lo hi e : ℤ) → (lo *ℤ pos n) ≤ℤ e → e ≤ℤ (hi *ℤ pos n) → neg_ℤ bound ≤ℤ lo
    → hi ≤ℤ bound → pos (unsigned_abs e) ≤ℤ (bound *ℤ pos n)
inside bound n lo hi e from to above below =
    omega (
      arith,
      ints,
      times_le (neg_ℤ bound) lo n above,
      times_le hi bound n below,
      times-add (pos 0) bound (neg_ℤ bound) n (omega (arith, ints)),
    )

module _ (ceilings : HasCeilings) (claim : ClaimData) (lawful : IsLawful claim) (xs : List Exchange)
    (each : All (IsLawfulExchange (length claim.servers)) xs) {Named : ℕ → Type 0} (course : Course)
    (fits : FitsNamed claim xs Named course) where
  abbrev wrong : ℕ → Bool
  wrong = fits.few_false.is_wrong

  -- ---- a conflict

  never : (pair : ℕ × ℕ) (conflict : IsConflict claim xs pair) → Named pair.0 → Named pair.1
      → wrong (group_of claim conflict.low) ≡ false → wrong (group_of claim conflict.high) ≡ false → ⊥
  never pair conflict named_low named_high right_low right_high =
      let x = conflict.low in
      let y = conflict.high in
      let true_low = true_if_right fits pair.0 x named_low conflict.low_stands right_low in
      let true_high = true_if_right fits pair.1 y named_high conflict.high_stands right_high in
      ⊎_elim
      (λ apart. apart (kept_are_compatible claim.drift_ppb course.fineness (low_mark claim.reading x)
      (high_mark claim.reading y) (course.request pair.0) (course.reply pair.1) fits.some_fineness
      lawful.drift_in_range
      (fits.drift (course.request pair.0) (course.reply pair.1)
      (is_request fits pair.0 x named_low conflict.low_stands) (is_reply fits pair.1 y named_high conflict.high_stands))
      (keeps_low fits pair.0 x named_low conflict.low_stands true_low)
      (keeps_high fits pair.1 y named_high conflict.high_stands true_high)))
      (λ alone. alone.1 (possible fits pair.0 x named_low conflict.low_stands true_low lawful.drift_in_range))
      conflict.impossible

  pub holds_end : (pair : ℕ × ℕ) → IsConflict claim xs pair → Named pair.0 → Named pair.1
      → HoldsEnd claim xs wrong pair
  holds_end pair conflict named_low named_high x y at_x at_y =
      let same_x : conflict.low ≡ x = let e = sym conflict.low_stands ∙ at_x in cc in
      let same_y : conflict.high ≡ y = let e = sym conflict.high_stands ∙ at_y in cc in
      by_test (wrong (group_of claim x) || wrong (group_of claim y)) (λ is. is)
      (λ none.
      let parts = or_parts (wrong (group_of claim x)) (wrong (group_of claim y)) none in
      absurd (never pair conflict named_low named_high
      (subst (λ (e : Exchange). wrong (group_of claim e) ≡ false) (sym same_x) parts.0)
      (subst (λ (e : Exchange). wrong (group_of claim e) ≡ false) (sym same_y) parts.1)))

  -- ---- an entry

  module _ (out : ℕ → Bool) (stretch : Stretch)
      (observed : IsObservedIn course stretch.begin stretch.end) where
    -- the group is wrong, and isn't left out
    abbrev wrong_besides : ℕ → Bool
    wrong_besides group = wrong group && not (out group)

    abbrev counts : ℕ → Bool
    counts server = wrong_besides (slice_index claim.groups server)

    abbrev Holds : Part → Type 0
    Holds part = HoldsFraction part.interval (error_of course.observation) course.fineness

    is_observation : IsNamedMoment xs Named course course.observation
    is_observation = inl refl

    exchanges_hold : (i j : ℕ) (x y : Exchange) → Named i → Named j → slice_get xs i ≡ Some x
        → slice_get xs j ≡ Some y → course.is_false x.server ≡ false → course.is_false y.server ≡ false
        → Holds (part_of claim stretch x y)
    exchanges_hold i j x y named_i named_j at_i at_j true_x true_y =
        let request = is_request fits i x named_i at_i in
        let reply = is_reply fits j y named_j at_j in (
          low_stays ceilings claim.drift_ppb lawful.drift_in_range course.fineness stretch
              (low_mark claim.reading x) (course.request i) course.observation
              (fits.drift (course.request i) course.observation request is_observation)
              (fits.drift course.observation (course.request i) is_observation request) observed
              (keeps_low fits i x named_i at_i true_x),
          high_stays ceilings claim.drift_ppb lawful.drift_in_range course.fineness stretch
              (high_mark claim.reading y) (course.reply j) course.observation
              (fits.drift (course.reply j) course.observation reply is_observation)
              (fits.drift course.observation (course.reply j) is_observation reply) observed
              (keeps_high fits j y named_j at_j true_y),
        )

    module _ (entry : ℕ × ℕ) (part : Part) (said : IsSaid claim xs out stretch entry part)
        (named_low : Named entry.0) (named_high : Named entry.1) where
      server_is : part.server ≡ said.low.server
      server_is = ap (λ (p : Part). p.server) (sym said.is)

      pub listed : part.server < length claim.groups
      listed =
          let x = All-slice_get (IsLawfulExchange (length claim.servers)) xs entry.0 said.low each said.low_stands in
          let server = x.listed in
          let count = lawful.group_for_each in
          rw server_is (omega arith)

      pub holds : counts part.server ≡ false → Holds part
      holds uncounted =
          let right : wrong (group_of claim said.low) ≡ false =
          right_if (wrong (group_of claim said.low)) (out (group_of claim said.low))
          (subst (λ (s : ℕ). wrong_besides (slice_index claim.groups s) ≡ false) server_is uncounted) said.stays in
          let right_high : wrong (group_of claim said.high) ≡ false =
          subst (λ (s : ℕ). wrong (slice_index claim.groups s) ≡ false) said.one_server right in
          subst Holds said.is
          (exchanges_hold entry.0 entry.1 said.low said.high named_low named_high said.low_stands said.high_stands
          (true_if_right fits entry.0 said.low named_low said.low_stands right)
          (true_if_right fits entry.1 said.high named_high said.high_stands right_high))

    -- ---- a hull

    pub held : (parts : List Part) → LieWithin out wrong
        → All (λ part. part.server < length claim.groups) parts
        → All (λ part. counts part.server ≡ false → Holds part) parts → (hull : Hull)
        → IsHull (group_intervals claim.groups parts) (claim.false_max - size_of claim out) hull → IsInHull course hull
    held parts false' all_listed all_hold hull is =
        let e = error_of course.observation in
        let n = course.fineness in
        let few = fewer_outside claim wrong out false' fits.few_false.few in
        hull_is_fine (group_intervals claim.groups parts) (claim.false_max - size_of claim out) hull e n
        fits.some_fineness
        (few_leave_it_out claim.groups parts counts e n all_listed all_hold (claim.false_max - size_of claim out)
        (omega (arith, few_by_cover claim wrong_besides)))
        is

    -- ---- a piece

    pub within : (entries : List (ℕ × ℕ)) → LieWithin out wrong
        → ((j : ℕ) (entry : ℕ × ℕ) → slice_get entries j ≡ Some entry → Named entry.0 × Named entry.1)
        → ShowBound claim xs out stretch entries → IsWithin course claim.bound
    within entries false' named shown =
        let ends = held shown.parts false'
        (all_said claim xs out stretch (λ part. part.server < length claim.groups) entries shown.parts
        (λ j entry part at said. listed entry part said (named j entry at).0 (named j entry at).1) shown.said)
        (all_said claim xs out stretch (λ part. counts part.server ≡ false → Holds part) entries shown.parts
        (λ j entry part at said. holds entry part said (named j entry at).0 (named j entry at).1) shown.said)
        (Bounded shown.lo shown.hi) shown.hull in
        inside claim.bound course.fineness shown.lo shown.hi (error_of course.observation) ends.0 ends.1 shown.above
        shown.below
