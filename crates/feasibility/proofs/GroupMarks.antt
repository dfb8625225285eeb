-- The marks of groups tell which groups are broken and which two conflict.
use Rattle.feasibility.proofs.Common.{eqb-true, ◌≡◌, ◌≢◌, ℕ, zero, suc, ◌<◌, Bool, true, false, ◌⊎◌, inl, inr, ⊎_elim, List, [], ◌∷◌, Some, length, slice_get, refl, All, filter, ◌==◌, cond-true, cond-false, All-nil, All-cons, All-map, ClaimData, Exchange, low_mark, high_mark, IsPossible, AreCompatible, AreAllCompatible, group_of, HasImpossible, Contradicts, IsBroken, DoConflict, group_exchanges, group_lows, group_highs, IsSound, DoGroupsAgree, IsConflictTable, by_test, eq-eqb, All-map_back}
use Rattle.feasibility.proofs.TrueExchanges.{at_passing}
use Rattle.feasibility.proofs.Covers.{is_possible_or_not, are_compatible_or_not}

-- ---- a search among the elements that pass

-- one that passes, and what is wrong with it
record Found {X : Type 0} (p : X → Bool) (F : X → Type 0) (xs : List X) : Type 0 where
  number : ℕ
  item : X
  stands : slice_get xs number ≡ Some item
  passes : p item ≡ true
  wrong : F item

module _ {X : Type 0} (p : X → Bool) (P F : X → Type 0) (decide : (x : X) → P x ⊎ F x) where
  -- all that pass are right, or one is wrong
  search_passing : (xs : List X) → All P (filter p xs) ⊎ Found p F xs
  search_passing [] = inl (All-nil P)
  search_passing (y ∷ ys) = ⊎_elim
      (λ (rest : All P (filter p ys)). by_test (p y)
      (λ first. ⊎_elim
      (λ right. inl (rw (cond-true (p y) (y ∷ filter p ys) (filter p ys) first)
      (All-cons P y (filter p ys) right rest)))
      (λ wrong. inr (record { number = zero; item = y; stands = refl; passes = first; wrong = wrong })) (decide y))
      (λ first. inl (rw (cond-false (p y) (y ∷ filter p ys) (filter p ys) first) rest)))
      (λ (later : Found p F ys). inr (record {
        number = suc later.number;
        item = later.item;
        stands = later.stands;
        passes = later.passes;
        wrong = later.wrong;
      }))
      (search_passing ys)

-- ---- groups

module _ (claim : ClaimData) (xs : List Exchange) where
  abbrev is_of : ℕ → Exchange → Bool
  is_of group x = group_of claim x == group

  abbrev Compatible : Exchange → Exchange → Type 0
  Compatible x y = AreCompatible claim.drift_ppb (low_mark claim.reading x) (high_mark claim.reading y)

  -- each of the one group with each of the other, or two of them that contradict
  search_pairs : (a b : ℕ) → AreAllCompatible claim.drift_ppb (group_lows claim xs a) (group_highs claim xs b)
      ⊎ Contradicts claim xs a b
  search_pairs a b = ⊎_elim
      (λ all. inl (All-map (λ low. All (AreCompatible claim.drift_ppb low) (group_highs claim xs b))
      (low_mark claim.reading) (group_exchanges claim xs a) all))
      (λ found. inr (record {
        low_number = found.number;
        high_number = found.wrong.number;
        low = found.item;
        high = found.wrong.item;
        low_stands = found.stands;
        high_stands = found.wrong.stands;
        in_low_group = eqb-true (group_of claim found.item) a found.passes;
        in_high_group = eqb-true (group_of claim found.wrong.item) b found.wrong.passes;
        not_compatible = found.wrong.wrong;
      }))
      (search_passing (is_of a)
      (λ x. All (AreCompatible claim.drift_ppb (low_mark claim.reading x)) (group_highs claim xs b))
      (λ x. Found (is_of b) (λ y. ¬ (Compatible x y)) xs)
      (λ x. ⊎_elim
      (λ all. inl (All-map (AreCompatible claim.drift_ppb (low_mark claim.reading x)) (high_mark claim.reading)
      (group_exchanges claim xs b) all))
      (λ found. inr found)
      (search_passing (is_of b) (Compatible x) (λ y. ¬ (Compatible x y))
      (λ y. are_compatible_or_not claim.drift_ppb (low_mark claim.reading x) (high_mark claim.reading y)) xs))
      xs)

  search_impossible : (group : ℕ) → All (IsPossible claim.reading) (group_exchanges claim xs group)
      ⊎ HasImpossible claim xs group
  search_impossible group = ⊎_elim (λ all. inl all)
      (λ found. inr (record {
        number = found.number;
        exchange = found.item;
        stands = found.stands;
        in_group = eqb-true (group_of claim found.item) group found.passes;
        impossible = found.wrong;
      }))
      (search_passing (is_of group) (IsPossible claim.reading) (λ x. ¬ (IsPossible claim.reading x))
      (is_possible_or_not claim.reading) xs)

  pub never_both : (a b : ℕ) → AreAllCompatible claim.drift_ppb (group_lows claim xs a) (group_highs claim xs b)
      → Contradicts claim xs a b → ⊥
  never_both a b all h =
      let of_low = All-map_back (λ low. All (AreCompatible claim.drift_ppb low) (group_highs claim xs b))
      (low_mark claim.reading) (group_exchanges claim xs a) all in
      let highs = at_passing (is_of a)
      (λ x. All (AreCompatible claim.drift_ppb (low_mark claim.reading x)) (group_highs claim xs b)) xs h.low_number
      h.low of_low h.low_stands (eq-eqb (group_of claim h.low) a h.in_low_group) in
      let of_high = All-map_back (AreCompatible claim.drift_ppb (low_mark claim.reading h.low))
      (high_mark claim.reading)
      (group_exchanges claim xs b) highs in
      h.not_compatible (at_passing (is_of b) (Compatible h.low) xs h.high_number h.high of_high h.high_stands
      (eq-eqb (group_of claim h.high) b h.in_high_group))

  never_impossible : (group : ℕ) → All (IsPossible claim.reading) (group_exchanges claim xs group)
      → HasImpossible claim xs group → ⊥
  never_impossible group all h =
      h.impossible (at_passing (is_of group) (IsPossible claim.reading) xs h.number h.exchange all h.stands
      (eq-eqb (group_of claim h.exchange) group h.in_group))

  pub sound_or_broken : (group : ℕ) → IsSound claim xs group ⊎ IsBroken claim xs group
  sound_or_broken group = ⊎_elim
      (λ possible. ⊎_elim (λ compatible. inl (record { possible = possible; compatible = compatible }))
      (λ h. inr (inr h)) (search_pairs group group))
      (λ h. inr (inl h)) (search_impossible group)

  pub sound_isnt_broken : (group : ℕ) → IsSound claim xs group → IsBroken claim xs group → ⊥
  sound_isnt_broken group sound = ⊎_elim
      (λ h. never_impossible group sound.possible h)
      (λ h. never_both group group sound.compatible h)

  pub agree_or_conflict : (a b : ℕ) → DoGroupsAgree claim xs a b ⊎ DoConflict claim xs a b
  agree_or_conflict a b = ⊎_elim
      (λ one_way. ⊎_elim (λ other_way. inl (record { one_way = one_way; other_way = other_way }))
      (λ h. inr (inr h)) (search_pairs b a))
      (λ h. inr (inl h)) (search_pairs a b)

  pub agreeing_dont_conflict : (a b : ℕ) → DoGroupsAgree claim xs a b → DoConflict claim xs a b → ⊥
  agreeing_dont_conflict a b agree = ⊎_elim
      (λ h. never_both a b agree.one_way h)
      (λ h. never_both b a agree.other_way h)

  -- ---- a table by tests

  broken_by_test : (group : ℕ) (t : Bool) → (t ≡ false → IsSound claim xs group)
      → (IsSound claim xs group → t ≡ false)
      → (t ≡ true → IsBroken claim xs group) × (IsBroken claim xs group → t ≡ true)
  broken_by_test group t sound test = (
    λ is. ⊎_elim (λ s. let no = test s in absurd cc) (λ h. h) (sound_or_broken group),
    λ h. by_test t (λ is. is) (λ isnt. absurd (sound_isnt_broken group (sound isnt) h)),
  )

  edge_by_test : (a b : ℕ) (t : Bool) → (DoGroupsAgree claim xs a b → t ≡ false) → t ≡ true → DoConflict claim xs a b
  edge_by_test a b t test is = ⊎_elim (λ agree. let no = test agree in absurd cc) (λ h. h) (agree_or_conflict a b)

  all_by_test : (a b : ℕ) (t : Bool) → (t ≡ false → DoGroupsAgree claim xs a b) → DoConflict claim xs a b → t ≡ true
  all_by_test a b t agree h = by_test t (λ is. is) (λ isnt. absurd (agreeing_dont_conflict a b (agree isnt) h))

  module _ (is_broken : ℕ → Bool) (is_edge : ℕ → ℕ → Bool)
      (sound : (group : ℕ) → group < length claim.groups
      → (is_broken group ≡ false → IsSound claim xs group) × (IsSound claim xs group → is_broken group ≡ false))
      (silent : (a b : ℕ) → DoGroupsAgree claim xs a b → is_edge a b ≡ false)
      (decided : (a b : ℕ) → a ≢ b → is_broken a ≡ false → is_broken b ≡ false → is_edge a b ≡ false
      → DoGroupsAgree claim xs a b) where
    pub table_by_tests : IsConflictTable claim xs is_broken is_edge
    table_by_tests = record {
      broken = λ group below. let both = sound group below in broken_by_test group (is_broken group) both.0 both.1;
      true_edges = λ a b is. edge_by_test a b (is_edge a b) (silent a b) is;
      all_edges = λ a b differ right_a right_b h.
          all_by_test a b (is_edge a b) (λ isnt. decided a b differ right_a right_b isnt) h;
    }
