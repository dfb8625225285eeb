-- The errors that the entries of an accepted piece admit: there are some, and none is beyond the bound.
use Rattle.std.proofs.Common.{rules}
use Rattle.std.proofs.Math.Nat.{mul-le-mul_right}
use Rattle.std.proofs.lemmas.Bool.{cases_lt}
use Rattle.std.proofs.lemmas.List.Folds.{Any-from_list_any}
use Rattle.std.proofs.lemmas.List.Sums.{sum_by-le-sum_by}
use Rattle.std.proofs.lemmas.Map.Keys.{any_passes_from_place}
use Rattle.std.proofs.lemmas.Option.{slice_get_read}
use Rattle.intersection.specs.Interval.{leaves_out}
use Rattle.intersection.specs.Hull.{IsAdmissible}
use Rattle.span_cover.specs.Group.{group_interval}
use Rattle.checker.proofs.Cover.{all_covered, piece_at}
use Rattle.checker.proofs.Separation.{passes, group_passes, count_push, counted, held_ends, held_test, meet_leaves_it_out}
use Rattle.cover_checker.proofs.Common.{◌≡◌, ℕ, zero, suc, ◌+◌, ◌-◌, ◌*◌, ◌<◌, ◌≤◌, ℤ, pos, neg_ℤ, ◌-ℤ◌, ◌*ℤ◌, ◌≤ℤ◌, ◌<ℤ◌, unsigned_abs, ◌⊎◌, inl, inr, ⊎_elim, ◌↔◌, Bool, true, false, cond, not, ◌&&◌, ◌||◌, ◌==◌, List, Some, length, count_by, refl, sym, ap, ◌∙◌, subst, arith, ints, clamps, nat_tests, by_lt_z, by_test, and_parts, and_from, cond-true, cond-false, slice_get, slice_index, list_any, int_max, All-slice_get, CaseHolds, ClaimData, CoverCertificateData, Exchange, IsAccepted, IsInWindow, Mark, Part, ShowBound, Stretch, ahead, begin_of, billion, fall, group_intervals, group_of, high_mark, high_over, last_end, low_mark, low_over, names, numbers_below, part_of, rise, size_of, widening}
use Rattle.era_unfold.specs.Ratio.{IsCeiling, ceiling_of}
use Rattle.cover_checker.proofs.Counts.{fewer_outside, no_larger}
use Rattle.cover_checker.specs.Hull.{IsSaid}
use Rattle.cover_checker.proofs.Entries.{all_said, each_heard}
use Rattle.cover_checker.proofs.Pieces.{held_case}
use Rattle.cover_checker.proofs.Stretches.{HasCeilings}
use Rattle.cover_checker.specs.Admission.{Admit, BoundSpan, HighLeavesRoom, LowLeavesRoom, MayFallBy, MayRiseBy}

-- ---- ratios

one_less : (k d : ℕ) → ((pos (suc k) -ℤ pos 1) *ℤ pos d) ≡ pos (k * d)
one_less k d = grind (arith, ints)

as_natural : (a n : ℕ) → pos a <ℤ pos n → a < n
as_natural a n h = omega (arith, ints)

-- what is no more than a ratio rounded up is less than one more than the ratio
pub in_reach : (n d w : ℕ) (z : ℤ) → 0 < d → IsCeiling n d w → z ≤ℤ pos w → ((z -ℤ pos 1) *ℤ pos d) <ℤ pos n
in_reach n d w (pos (suc k)) some ceiling most = grind (arith, ints, ceiling.least k, one_less)
in_reach n d w _ some ceiling most = omega (arith, ints)

-- and what is less than that is no more
pub from_reach : (n d w : ℕ) (z : ℤ) → IsCeiling n d w → ((z -ℤ pos 1) *ℤ pos d) <ℤ pos n → z ≤ℤ pos w
from_reach n d w (pos (suc k)) ceiling less =
    grind (arith, ints, nat_tests, as_natural, one_less, ⊎_elim, mul-le-mul_right, cases_lt)
from_reach n d w _ ceiling less = omega (arith, ints)

below_either : (z a b : ℤ) → z ≤ℤ int_max a b → (z ≤ℤ a) ⊎ (z ≤ℤ b)
below_either z a b h =
    by_lt_z a b (λ less. inr (omega (arith, ints, clamps))) (λ more. inl (omega (arith, ints, clamps)))

below_most : (z a b : ℤ) → (z ≤ℤ a) ⊎ (z ≤ℤ b) → z ≤ℤ int_max a b
below_most z a b (inl h) = omega (arith, ints, clamps)
below_most z a b (inr h) = omega (arith, ints, clamps)

pub size_within : (e b : ℤ) → neg_ℤ b ≤ℤ e → e ≤ℤ b → pos (unsigned_abs e) ≤ℤ b
size_within e b above below = omega (arith, ints)

-- ---- one mark

module _ (ceilings : HasCeilings) (claim : ClaimData) (rate : claim.drift_ppb ≤ 500000000) where
  falls : (from to z : ℤ) → (z ≤ℤ fall claim.drift_ppb (ahead from to)) ↔ MayFallBy claim from to z
  unfolding widening
  falls from to z =
      let n = claim.drift_ppb * unsigned_abs (ahead from to) in
      let d = billion - claim.drift_ppb in
      let ceiling = ceilings n d (omega arith) in (
        λ h. in_reach n d (ceiling_of n d) z (omega arith) ceiling h,
        λ h. from_reach n d (ceiling_of n d) z ceiling h,
      )

  rises : (from to z : ℤ) → (z ≤ℤ rise claim.drift_ppb (ahead from to)) ↔ MayRiseBy claim from to z
  unfolding rise
  rises from to z =
      let n = claim.drift_ppb * unsigned_abs (ahead from to) in
      let d = billion + claim.drift_ppb in
      let ceiling = ceilings n d (omega arith) in (
        λ h. in_reach n d (ceiling_of n d) z (omega arith) ceiling h,
        λ h. from_reach n d (ceiling_of n d) z ceiling h,
      )

  module _ (stretch : Stretch) (mark : Mark) (error : ℤ) where
    abbrev fallen : ℤ
    fallen = fall claim.drift_ppb (ahead mark.place stretch.end)

    abbrev to_rise : ℤ
    to_rise = rise claim.drift_ppb (ahead stretch.begin mark.place)

    abbrev risen : ℤ
    risen = rise claim.drift_ppb (ahead mark.place stretch.end)

    abbrev to_fall : ℤ
    to_fall = fall claim.drift_ppb (ahead stretch.begin mark.place)

    low_room : (low_over claim.drift_ppb stretch mark ≤ℤ error) ↔ LowLeavesRoom claim stretch mark error
    low_room = (
      λ h. ⊎_elim (λ fell. inl ((falls mark.place stretch.end (mark.error -ℤ error)).0 fell))
          (λ rose. inr ((rises stretch.begin mark.place (mark.error -ℤ error)).0 rose))
          (below_either (mark.error -ℤ error) fallen to_rise (omega (arith, ints))),
      λ room.
          let most = below_most (mark.error -ℤ error) fallen to_rise
          (⊎_elim (λ fell. inl ((falls mark.place stretch.end (mark.error -ℤ error)).1 fell))
          (λ rose. inr ((rises stretch.begin mark.place (mark.error -ℤ error)).1 rose)) room) in
          omega (arith, ints, most),
    )

    high_room : (error ≤ℤ high_over claim.drift_ppb stretch mark) ↔ HighLeavesRoom claim stretch mark error
    high_room = (
      λ h. ⊎_elim (λ rose. inl ((rises mark.place stretch.end (error -ℤ mark.error)).0 rose))
          (λ fell. inr ((falls stretch.begin mark.place (error -ℤ mark.error)).0 fell))
          (below_either (error -ℤ mark.error) risen to_fall (omega (arith, ints))),
      λ room.
          let most = below_most (error -ℤ mark.error) risen to_fall
          (⊎_elim (λ rose. inl ((rises mark.place stretch.end (error -ℤ mark.error)).1 rose))
          (λ fell. inr ((falls stretch.begin mark.place (error -ℤ mark.error)).1 fell)) room) in
          omega (arith, ints, most),
    )

-- ---- counts of groups

either_counted : (p q : ℕ → Bool) (n : ℕ) → count_by (λ k. p k || q k) (numbers_below n)
    ≤ count_by p (numbers_below n) + count_by q (numbers_below n)
either_counted p q zero = omega arith
either_counted p q (suc n) =
    grind (
      arith,
      nat_tests,
      either_counted p q n,
      count_push p n,
      count_push q n,
      count_push (λ k. p k || q k) n,
    )

-- ---- all entries

module _ (ceilings : HasCeilings) (claim : ClaimData) (rate : claim.drift_ppb ≤ 500000000) (xs : List Exchange)
    (out : ℕ → Bool) (stretch : Stretch) (entries : List (ℕ × ℕ))
    (shown : ShowBound claim xs out stretch entries) where
  abbrev Says : ℕ × ℕ → Part → Type 0
  Says entry part = IsSaid claim xs out stretch entry part

  -- a part is of the first one's server, and holds an error exactly if both leave room for it
  rooms : (entry : ℕ × ℕ) (x y : Exchange) (part : Part) (error : ℤ) → slice_get xs entry.0 ≡ Some x
      → slice_get xs entry.1 ≡ Some y → Says entry part → (part.server ≡ x.server)
      × ((leaves_out part.interval error ≡ false)
      ↔ (LowLeavesRoom claim stretch (low_mark claim.reading x) error
      × HighLeavesRoom claim stretch (high_mark claim.reading y) error))
  rooms entry x y part error at_x at_y said =
      let same_x : said.low ≡ x = let e = sym said.low_stands ∙ at_x in cc in
      let same_y : said.high ≡ y = let e = sym said.high_stands ∙ at_y in cc in
      let is : part ≡ part_of claim stretch x y =
      sym said.is ∙ ap (λ (e : Exchange). part_of claim stretch e said.high) same_x
      ∙ ap (λ (e : Exchange). part_of claim stretch x e) same_y in
      let low = low_room ceilings claim rate stretch (low_mark claim.reading x) error in
      let high = high_room ceilings claim rate stretch (high_mark claim.reading y) error in (
        ap (λ (p : Part). p.server) is,
        (
          λ held. let ends = held_ends part.interval error held in (low.0 (rw is at ends.0), high.0 (rw is at ends.1)),
          λ room. held_test part.interval error (rw is (low.1 room.0)) (rw is (high.1 room.1)),
        ),
      )

  -- a part of a group, which leaves a point out
  abbrev in_group : ℤ → ℕ → Part → Bool
  in_group point g part = (slice_index claim.groups part.server == g) && leaves_out part.interval point

  abbrev group_leaves_out : ℤ → ℕ → Bool
  group_leaves_out point g = passes (λ i. leaves_out i point) (group_interval claim.groups shown.parts g)

  group_is : (point : ℤ) (g : ℕ) → group_leaves_out point g ≡ list_any (in_group point g) shown.parts
  group_is point g = group_passes (λ i. leaves_out i point) (meet_leaves_it_out point) claim.groups shown.parts g

  count_is : (point : ℤ) → count_by (λ i. leaves_out i point) (group_intervals claim.groups shown.parts)
      ≡ count_by (group_leaves_out point) (numbers_below (length claim.groups))
  count_is point = grind (arith, counted, leaves_out, meet_leaves_it_out, group_interval, numbers_below, length)

  -- a part of a group that doesn't leave a point out holds it
  part_holds : (point : ℤ) (g j : ℕ) (part : Part) → slice_get shown.parts j ≡ Some part
      → slice_index claim.groups part.server ≡ g → group_leaves_out point g ≡ false
      → leaves_out part.interval point ≡ false
  part_holds point g j part at is held = search (rules, by_test, any_passes_from_place, and_from, group_is)

  -- the least admissible error is admitted, if the groups that are left out aren't too many
  module _ (small : size_of claim out ≤ claim.false_max) where
    abbrev left_out_or_leaves_out : ℕ → Bool
    left_out_or_leaves_out g = out g || group_leaves_out shown.lo g

    neither : (g : ℕ) → left_out_or_leaves_out g ≡ false → group_leaves_out shown.lo g ≡ false
    neither g none = by_test (group_leaves_out shown.lo g)
        (λ leaves. grind (arith, nat_tests)) (λ holds. holds)

    pub some_admitted : Admit claim xs out stretch entries shown.lo
    some_admitted = record {
      is_wrong = left_out_or_leaves_out;
      few = (let few = shown.hull.1.0 in let same = count_is shown.lo in
          let both = either_counted out (group_leaves_out shown.lo) (length claim.groups) in
          omega (arith, few, same, both));
      left_out = λ g is. grind (arith, nat_tests);
      room = λ j a b x y named at_a at_b fine.
          let found = each_heard claim xs out stretch entries shown.parts j (a, b) named shown.said in
          let part = found.1 in
          let (server, holds) = rooms (a, b) x y part shown.lo at_a at_b found.3 in
          holds.0 (part_holds shown.lo (group_of claim x) found.0 part found.2
          (ap (slice_index claim.groups) server) (neither (group_of claim x) fine));
    }

  -- an entry that says a part
  abbrev HasEntry : Part → Type 0
  HasEntry part = (j : ℕ) × (entry : ℕ × ℕ) × (slice_get entries j ≡ Some entry) × Says entry part

  entry_of : (j : ℕ) (part : Part) → slice_get shown.parts j ≡ Some part → HasEntry part
  entry_of j part at = All-slice_get HasEntry shown.parts j part
      (all_said claim xs out stretch HasEntry entries shown.parts (λ i entry part at said. (i, entry, at, said))
      shown.said) at

  module _ (error : ℤ) (admit : Admit claim xs out stretch entries error) where
    -- the group is wrong, and isn't left out
    abbrev wrong_besides : ℕ → Bool
    wrong_besides g = admit.is_wrong g && not (out g)

    -- a part of a group that isn't wrong holds the error
    admitted_by : (part : Part) → HasEntry part → admit.is_wrong (slice_index claim.groups part.server) ≡ false
        → leaves_out part.interval error ≡ false
    admitted_by part (j, entry, there, said) fine =
        let (server, holds) = rooms entry said.low said.high part error said.low_stands said.high_stands said in
        holds.1 (admit.room j entry.0 entry.1 said.low said.high there said.low_stands said.high_stands
        (ap (λ (s : ℕ). admit.is_wrong (slice_index claim.groups s)) (sym server) ∙ fine))

    -- and each is of a group that isn't left out
    stays : (part : Part) → HasEntry part → out (slice_index claim.groups part.server) ≡ false
    stays part (j, entry, there, said) =
        ap (λ (p : Part). out (slice_index claim.groups p.server)) (sym said.is) ∙ said.stays

    -- so a group that leaves it out is wrong, and isn't left out
    out_is_wrong : (g : ℕ) → group_leaves_out error g ≡ true → wrong_besides g ≡ true
    out_is_wrong g leaves =
        let found = Any-from_list_any (in_group error g) shown.parts (sym (group_is error g) ∙ leaves) in
        let part = found.1 in
        let tests = and_parts (slice_index claim.groups part.server == g) (leaves_out part.interval error) found.4 in
        let at = slice_get_read shown.parts (length shown.parts) found.0 part refl found.2 (sym found.3) in
        let group : slice_index claim.groups part.server ≡ g =
        (let test = tests.0 in grind (arith, nat_tests)) in
        let entry = entry_of found.0 part at in
        let not_out : out g ≡ false = ap out (sym group) ∙ stays part entry in
        by_test (admit.is_wrong g)
        (λ wrong. grind (arith, nat_tests))
        (λ fine.
        let held = admitted_by part entry (ap admit.is_wrong group ∙ fine) in
        let never : true ≡ false = sym tests.1 ∙ held in
        absurd cc)

    no_more_at : (g : ℕ) → cond (group_leaves_out error g) 1 0 ≤ cond (wrong_besides g) 1 0
    no_more_at g = grind (arith, by_test, cond-true, out_is_wrong, cond-false)

    admissible : IsAdmissible (group_intervals claim.groups shown.parts) (claim.false_max - size_of claim out) error
    admissible =
        omega (
          arith,
          fewer_outside claim admit.is_wrong out admit.left_out admit.few,
          count_is error,
          sum_by-le-sum_by (λ g.
              cond (group_leaves_out error g) 1 0) (λ g. cond (wrong_besides g) 1 0)
              (numbers_below (length claim.groups)) no_more_at,
        )

    -- an error that is admitted is within the bound
    pub none_beyond : pos (unsigned_abs error) ≤ℤ claim.bound
    none_beyond = grind (arith, admissible, size_within)

-- ---- an accepted certificate

module _ (ceilings : HasCeilings) (claim : ClaimData) (rate : claim.drift_ppb ≤ 500000000) (xs : List Exchange)
    (certificate : CoverCertificateData) (accepted : IsAccepted claim xs certificate) where
  pub bounds_span : BoundSpan claim xs certificate
  bounds_span = record {
    conflicts = accepted.conflicts;
    each = λ n reading is_wrong inside few ends.
        let held = held_case certificate.cases is_wrong (accepted.answered is_wrong few ends) in
        let case = held.1 in
        let holds = All-slice_get (CaseHolds claim xs) certificate.cases held.0 case accepted.each held.2 in
        let in_pieces : IsInWindow n claim.first (last_end claim.first case.pieces) reading =
        subst (λ (z : ℤ). IsInWindow n claim.first z reading) (sym holds.ends_with_span) inside in
        let covered = all_covered n reading claim.first case.pieces holds.some_piece in_pieces in
        let found = piece_at (λ stretch. IsInWindow n stretch.begin stretch.end reading) claim.first case.pieces
        covered.0 covered.1 in
        let stretch : Stretch =
        record { begin = begin_of claim.first case.pieces covered.0; end = pos found.0.upto } in
        let shown = holds.each covered.0 found.0 found.1 in
        let small : size_of claim (names case) ≤ claim.false_max =
        omega (arith, no_larger claim is_wrong (names case) held.3, few) in
        record {
          c = held.0;
          case = case;
          case_stands = held.2;
          are_wrong = held.3;
          k = covered.0;
          piece = found.0;
          piece_stands = found.1;
          stretch = stretch;
          begins = refl;
          ends = refl;
          holds_reading = found.2;
          error = shown.lo;
          admitted = some_admitted ceilings claim rate xs (names case) stretch found.0.entries shown small;
          none_beyond = λ e admit.
              none_beyond ceilings claim rate xs (names case) stretch found.0.entries shown e admit;
        };
  }
