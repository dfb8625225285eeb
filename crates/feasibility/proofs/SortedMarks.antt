-- Marks of groups, gathered and sorted.
use Rattle.std.proofs.Common.{IsTrue, ◌↔◌}
use Rattle.feasibility.proofs.Common.{◌≡◌, ℕ, ◌<◌, get_or, Vec, Global, Bool, true, false, true≢false, List, [], ◌∷◌, map, length, IsPermutation, refl, sym, ap, ◌∙◌, subst, arith, All, filter, list_all, AllPass-from_list_all, list_all-from_AllPass, with_items_is, IsWithinRange, ClaimData, Mark, Exchange, is_possible, is_outside, group_exchanges, group_lows, group_highs, IsSound, DoGroupsAgree, AreMarksOf, AreSorted, AreAllSorted, AreOfGroupsInOrder, true_exchanges, low_marks, high_marks, AreAllCompatible, low_mark, high_mark, get_or_default, KeptMarks}
use Rattle.std.specs.Vec.{with_items}
use Rattle.std.proofs.lemmas.List.Sorted.{All-permutation, IsPermutation-sym, length_permutation}
use Rattle.error_marks.specs.Direction.{IsInOrder}
use Rattle.error_marks.proofs.Compatibility.{of_permutation}
use Rattle.feasibility.specs.declared.sorted_marks.SortedMarks.{SortedMarks}
use Rattle.feasibility.proofs.DriftTest.{possible_from, possible_to}

same_filter : {X : Type 0} (p q : X → Bool) → ((x : X) → p x ≡ q x) → (xs : List X) → filter p xs ≡ filter q xs
same_filter p q same [] = refl
same_filter p q same (x ∷ xs) = rw (same x, same_filter p q same xs) refl

module _ (claim : ClaimData) (xs : List Exchange) (group : ℕ) where
  -- the exchanges that aren't with servers outside a group are those of the group
  pub of_group : true_exchanges (is_outside claim.groups group) xs ≡ group_exchanges claim xs group
  of_group = grind arith

  tests_possible : list_all (is_possible claim.reading) (group_exchanges claim xs group) ≡ true
      → All (λ x. is_possible claim.reading x ≡ true) (group_exchanges claim xs group)
  tests_possible is = AllPass-from_list_all (is_possible claim.reading) (group_exchanges claim xs group) is

  -- an exchange that is impossible makes a group unsound
  pub impossible : list_all (is_possible claim.reading) (group_exchanges claim xs group) ≡ false
      → IsSound claim xs group → ⊥
  impossible is sound = true≢false (sym (list_all-from_AllPass (is_possible claim.reading)
      (group_exchanges claim xs group)
      (λ k d below. possible_to claim.reading _ (sound.possible k d below))) ∙ is)

  -- where they are possible, the group is sound exactly if the marks agree
  pub sound_by_marks : (compatible : Bool)
      → list_all (is_possible claim.reading) (group_exchanges claim xs group) ≡ true
      → IsTrue compatible ↔ AreAllCompatible claim.drift_ppb (group_lows claim xs group) (group_highs claim xs group)
      → IsTrue compatible ↔ IsSound claim xs group
  sound_by_marks compatible is (from, to) = (
    λ t. record {
      possible = λ k d below. possible_from claim.reading _ (tests_possible is k d below);
      compatible = from t;
    },
    λ sound. to sound.compatible,
  )

-- two sound groups agree exactly if their sorted marks do
module _ (claim : ClaimData) (xs : List Exchange) (a b : ℕ) (ms ns : SortedMarks)
    (of_a : AreMarksOf claim xs a ms) (of_b : AreMarksOf claim xs b ns)
    (right_a : IsTrue ms.is_sound) (right_b : IsTrue ns.is_sound) where
  abbrev SortedAgree : Type 0
  SortedAgree = AreAllCompatible claim.drift_ppb ms.kept.lows.items ns.kept.highs.items
      × AreAllCompatible claim.drift_ppb ns.kept.lows.items ms.kept.highs.items

  pub agree_from : SortedAgree → DoGroupsAgree claim xs a b
  agree_from (one, other) =
      grind (
        arith,
        of_permutation claim.drift_ppb ms.kept.lows.items (group_lows claim xs a) ns.kept.highs.items
            (group_highs claim xs b) (IsPermutation-sym _ _ (of_a.lows right_a)) (IsPermutation-sym _ _ (of_b.highs right_b))
            one,
        of_permutation claim.drift_ppb ns.kept.lows.items (group_lows claim xs b) ms.kept.highs.items (group_highs
            claim xs a) (IsPermutation-sym _ _ (of_b.lows right_b)) (IsPermutation-sym _ _ (of_a.highs right_a)) other,
      )

  pub agree_to : DoGroupsAgree claim xs a b → SortedAgree
  agree_to h = (
    of_permutation claim.drift_ppb (group_lows claim xs a) ms.kept.lows.items (group_highs claim xs b)
        ns.kept.highs.items (of_a.lows right_a) (of_b.highs right_b) h.one_way,
    of_permutation claim.drift_ppb (group_lows claim xs b) ns.kept.lows.items (group_highs claim xs a)
        ms.kept.highs.items (of_b.lows right_b) (of_a.highs right_a) h.other_way,
  )

-- ---- one group

module _ (claim : ClaimData) (xs : List Exchange) (group : ℕ) (gathered : KeptMarks) where
  abbrev Outside : ℕ → Bool
  Outside = is_outside claim.groups group

  -- an exchange of it is impossible
  pub unsound_marks : (kept : KeptMarks)
      → false ≡ list_all (is_possible claim.reading) (true_exchanges Outside xs)
      → AreMarksOf claim xs group record { is_sound = false; kept = kept }
  unsound_marks kept is =
      grind (
        arith,
        impossible claim xs group (sym (is ∙ ap (list_all (is_possible claim.reading)) (of_group claim xs
            group))),
      )

  -- all are possible
  pub gathered_marks : (kept : KeptMarks) (compatible : Bool)
      → true ≡ list_all (is_possible claim.reading) (true_exchanges Outside xs)
      → gathered.lows.items ≡ low_marks claim.reading Outside xs
      → gathered.highs.items ≡ high_marks claim.reading Outside xs
      → IsTrue compatible ↔ AreAllCompatible claim.drift_ppb gathered.lows.items gathered.highs.items
      → IsPermutation gathered.lows.items kept.lows.items → IsPermutation gathered.highs.items kept.highs.items
      → AreSorted kept → AreMarksOf claim xs group record { is_sound = compatible; kept = kept }
  gathered_marks kept compatible possible lows highs exact moved_lows moved_highs sorted =
      let lows_are : gathered.lows.items ≡ group_lows claim xs group =
      lows ∙ ap (map (low_mark claim.reading)) (of_group claim xs group) in
      let highs_are : gathered.highs.items ≡ group_highs claim xs group =
      highs ∙ ap (map (high_mark claim.reading)) (of_group claim xs group) in
      record {
        sound = sound_by_marks claim xs group compatible
            (sym (possible ∙ ap (list_all (is_possible claim.reading)) (of_group claim xs group)))
            (subst (λ ms. IsTrue compatible ↔ AreAllCompatible claim.drift_ppb ms (group_highs claim xs group)) lows_are
            (subst (λ ms. IsTrue compatible ↔ AreAllCompatible claim.drift_ppb gathered.lows.items ms)
            highs_are exact));
        lows = λ t. subst (λ ms. IsPermutation ms kept.lows.items) lows_are moved_lows;
        highs = λ t. subst (λ ms. IsPermutation ms kept.highs.items) highs_are moved_highs;
        sorted = λ t. sorted;
      }

-- what is read from a list of the groups' marks
module _ (claim : ClaimData) (xs : List Exchange) (marks : List SortedMarks)
    (each : AreOfGroupsInOrder claim xs marks) where
  pub all_sorted : AreAllSorted marks
  all_sorted k d below = (each k d below).sorted

  pub at : (k : ℕ) (m : SortedMarks) → k < length marks → m ≡ get_or marks k m → AreMarksOf claim xs k m
  at k m below is = subst (AreMarksOf claim xs k) (sym is) (each k m below)

pub sorted_again : (marks : List SortedMarks) (k : ℕ) (e m : SortedMarks) → AreAllSorted marks → k < length marks
    → m ≡ get_or marks k m → (get_or marks k e).is_sound ≡ true → AreSorted m.kept
sorted_again marks k e m each below is sound =
    subst (λ (n : SortedMarks). AreSorted n.kept) (sym (is ∙ get_or_default marks k m e below)) (each k e below sound)

-- two groups held against each other
module _ (claim : ClaimData) (xs : List Exchange) (marks : List SortedMarks) (each : AreOfGroupsInOrder claim xs marks)
    (a b : ℕ) (e f m n : SortedMarks) (below_a : a < length marks) (below_b : b < length marks)
    (is_m : m ≡ get_or marks a m) (is_n : n ≡ get_or marks b n)
    (right_a : (get_or marks a e).is_sound ≡ true) (right_b : (get_or marks b f).is_sound ≡ true)
    (ppb : ℕ) (rate : claim.drift_ppb ≡ ppb) (answer : Bool)
    (exact : IsTrue answer ↔ (AreAllCompatible ppb m.kept.lows.items n.kept.highs.items
    × AreAllCompatible ppb n.kept.lows.items m.kept.highs.items)) where
  right : (k : ℕ) (d s : SortedMarks) → k < length marks → s ≡ get_or marks k s → (get_or marks k d).is_sound ≡ true
      → s.is_sound ≡ true
  right k d s below is sound = ap (λ (t : SortedMarks). t.is_sound) (is ∙ get_or_default marks k s d below) ∙ sound

  here : IsTrue answer ↔ (AreAllCompatible claim.drift_ppb m.kept.lows.items n.kept.highs.items
      × AreAllCompatible claim.drift_ppb n.kept.lows.items m.kept.highs.items)
  here = grind arith

  pub agree_by_test : answer ≡ true → DoGroupsAgree claim xs a b
  agree_by_test t = agree_from claim xs a b m n (at claim xs marks each a m below_a is_m)
      (at claim xs marks each b n below_b is_n) (right a e m below_a is_m right_a) (right b f n below_b is_n right_b)
      (here.0 t)

  pub disagree_by_test : answer ≡ false → DoGroupsAgree claim xs a b → ⊥
  disagree_by_test is agree =
      true≢false (sym (here.1 (agree_to claim xs a b m n (at claim xs marks each a m below_a is_m)
      (at claim xs marks each b n below_b is_n) (right a e m below_a is_m right_a) (right b f n below_b is_n right_b)
      agree)) ∙ is)

-- ---- marks that are sorted where they stand

module _ (v : Vec Mark Global) (lent moved : List Mark) (is : lent ≡ v.items) (p : IsPermutation lent moved) where
  as_long : length moved ≡ v.len
  as_long = length_permutation lent moved p ∙ ap length is ∙ sym v.ok.0

  whole : (with_items v moved).items ≡ moved
  whole = with_items_is v moved as_long

  in_range : All IsWithinRange v.items → All IsWithinRange moved
  in_range range = All-permutation IsWithinRange lent moved p (subst (All IsWithinRange) (sym is) range)

  module _ (now : List Mark) (now_is : now ≡ (with_items v moved).items) where
    pub kept_range : All IsWithinRange v.items → All IsWithinRange now
    kept_range range = subst (All IsWithinRange) (sym (now_is ∙ whole)) (in_range range)

    pub written : IsPermutation v.items now
    written = subst (λ ms. IsPermutation ms now) is (subst (IsPermutation lent) (sym (now_is ∙ whole)) p)

  pub range_there : All IsWithinRange v.items → All IsWithinRange (with_items v moved).items
  range_there range = subst (All IsWithinRange) (sym whole) (in_range range)

  pub order_there : IsInOrder moved → IsInOrder (with_items v moved).items
  order_there order = subst IsInOrder (sym whole) order
