-- The first marks of two groups that aren't compatible are of the first two exchanges that contradict each other.
use Rattle.feasibility.proofs.Common.{rules, AreOfGroups, eqb-true, ◌≡◌, ◌≢◌, ℕ, ◌+◌, ◌<◌, ◌≤◌, ◌⊎◌, inl, inr, ⊎_elim, Bool, true, false, List, Option, None, Some, length, map, get_or, slice_get, pos, refl, sym, ap, ◌∙◌, subst, arith, ◌==◌, slice_index, MatchOption, cases_lt, nat_tests, get_or-map, length-map, get_or_from_slice_get, slice_get_within, ClaimData, low_mark, high_mark, AreCompatible, Mark, Exchange, Pair, IsContradiction, IsNoLater, group_of, group_exchanges, group_lows, group_highs, group_numbers, IsFirstApart, AreNumberedOf, IsFirstIfAny, IsImpossibleAt, IsFirstImpossible, pair_of, is_no_later, earlier, twice, eq-eqb, slice_get-below}
use Rattle.error_marks.specs.Compatible.{AllCompatible}
use Rattle.error_marks.specs.Conflict.{IsFirstConflict}
use Rattle.feasibility.specs.declared.contradiction.Contradiction.{Contradiction}
use Rattle.feasibility.specs.declared.numbered_marks.NumberedMarks.{NumberedMarks}
use Rattle.feasibility.proofs.GroupMarks.{never_both}
use Rattle.feasibility.proofs.PassingNumbers.{Found, found, no_less, one_there, placed, rising}

-- ---- pairs, in their order

pub no_later_through : (p q r : Pair) → IsNoLater p q → IsNoLater q r → IsNoLater p r
no_later_through p q r h k = grind (arith, h, k)

no_later_by_test : (a b : Contradiction) → is_no_later a b ≡ true → IsNoLater (pair_of a) (pair_of b)
no_later_by_test a b t = grind (arith, nat_tests)

later_by_test : (a b : Contradiction) → is_no_later a b ≡ false → IsNoLater (pair_of b) (pair_of a)
later_by_test a b t = grind (arith, nat_tests)

-- a pair that is one of these, and no later than any
abbrev IsFirstOf : (Pair → Type 0) → Pair → Type 0
IsFirstOf P pair = P pair × ((other : Pair) → P other → IsNoLater pair other)

abbrev Answers : (Pair → Type 0) → Option Contradiction → Type 0
Answers P found = MatchOption found ((pair : Pair) → P pair → ⊥) (λ c. IsFirstOf P (pair_of c))

module _ (P Q R : Pair → Type 0) (one_is : (pair : Pair) → P pair → R pair) (other_is : (pair : Pair) → Q pair → R pair)
    (split : (pair : Pair) → R pair → P pair ⊎ Q pair) where
  first_of_one : (a : Pair) → IsFirstOf P a → ((pair : Pair) → Q pair → IsNoLater a pair) → IsFirstOf R a
  first_of_one a first no_later = grind arith

  first_of_other : (b : Pair) → IsFirstOf Q b → ((pair : Pair) → P pair → IsNoLater b pair) → IsFirstOf R b
  first_of_other b first no_later = grind arith

  first_of_both : (one other : Option Contradiction) → Answers P one → Answers Q other → Answers R (earlier one other)
  first_of_both None None none none' = λ pair h. ⊎_elim (λ p. none pair p) (λ q. none' pair q) (split pair h)
  first_of_both None (Some b) none first = first_of_other (pair_of b) first (λ pair p. absurd (none pair p))
  first_of_both (Some a) None first none = first_of_one (pair_of a) first (λ pair q. absurd (none pair q))
  first_of_both (Some a) (Some b) first first' = search rules

-- ---- marks that aren't compatible

pub some_mark : Mark
some_mark = record { place = pos 0; error = pos 0 }

-- the low mark of an exchange of the one group and the high mark of one of the other
record IsApart (claim : ClaimData) (xs : List Exchange) (a b : ℕ) (pair : Pair) : Type 0 where
  low : Exchange
  high : Exchange
  low_stands : slice_get xs pair.low ≡ Some low
  high_stands : slice_get xs pair.high ≡ Some high
  in_low : group_of claim low ≡ a
  in_high : group_of claim high ≡ b
  apart : AreCompatible claim.drift_ppb (low_mark claim.reading low) (high_mark claim.reading high) → ⊥

at_map : (f : Exchange → Mark) (xs : List Exchange) (k : ℕ) (x : Exchange) (d : Mark) → slice_get xs k ≡ Some x
    → get_or (map f xs) k d ≡ f x
at_map f xs k x d at = get_or-map f xs k x d (slice_get_within xs k x at) ∙ ap f (get_or_from_slice_get xs k x x at)

within_map : (f : Exchange → Mark) (xs : List Exchange) (k : ℕ) (x : Exchange) → slice_get xs k ≡ Some x
    → k < length (map f xs)
within_map f xs k x at = rw (length-map xs f) (slice_get_within xs k x at)

mapped_at : (f : Exchange → Mark) (xs : List Exchange) (k : ℕ) → k < length (map f xs)
    → (x : Exchange) × (slice_get xs k ≡ Some x)
mapped_at f xs k below = slice_get-below xs k (subst (λ (n : ℕ). k < n) (length-map xs f) below)

module _ (claim : ClaimData) (xs : List Exchange) (a b : ℕ) where
  abbrev is_of : ℕ → Exchange → Bool
  is_of group x = group_of claim x == group

  abbrev Compatible : Mark → Mark → Type 0
  Compatible low high = AreCompatible claim.drift_ppb low high

  none_apart : AllCompatible claim.drift_ppb (group_lows claim xs a) (group_highs claim xs b) → (pair : Pair)
      → IsApart claim xs a b pair → ⊥
  none_apart all pair h = never_both claim xs a b all (record {
    low_number = pair.low;
    high_number = pair.high;
    low = h.low;
    high = h.high;
    low_stands = h.low_stands;
    high_stands = h.high_stands;
    in_low_group = h.in_low;
    in_high_group = h.in_high;
    not_compatible = h.apart;
  })

  module _ (i j : ℕ) (first : IsFirstConflict claim.drift_ppb (group_lows claim xs a) (group_highs claim xs b) i j)
      (pair : Pair) (low_is : pair.low ≡ slice_index (group_numbers claim xs a) i)
      (high_is : pair.high ≡ slice_index (group_numbers claim xs b) j) (d : Mark) where
    abbrev lows : List Mark
    lows = group_lows claim xs a

    abbrev highs : List Mark
    highs = group_highs claim xs b

    not_fit : Compatible (get_or lows i d) (get_or highs j d) → ⊥
    not_fit = (first.first_of_it d).conflicts d

    number_is : (group k n m : ℕ) → n ≡ slice_index (group_numbers claim xs group) k
        → slice_get (group_numbers claim xs group) k ≡ Some (0 + m) → n ≡ m
    number_is group k n m is at = omega (arith, get_or_from_slice_get (group_numbers claim xs group) k (0 + m) 0 at)

    stands_there : (n m : ℕ) (x : Exchange) → n ≡ m → slice_get xs m ≡ Some x → slice_get xs n ≡ Some x
    stands_there n m x same at = subst (λ (k : ℕ). slice_get xs k ≡ Some x) (sym same) at

    module _ (x y : Exchange) (at_x : slice_get (group_exchanges claim xs a) i ≡ Some x)
        (at_y : slice_get (group_exchanges claim xs b) j ≡ Some y) where
      low_found : Found (is_of a) 0 xs i x
      low_found = found (is_of a) 0 xs i x at_x

      high_found : Found (is_of b) 0 xs j y
      high_found = found (is_of b) 0 xs j y at_y

      these_apart : IsApart claim xs a b pair
      these_apart = record {
        low = x;
        high = y;
        low_stands =
            stands_there pair.low low_found.number x (number_is a i pair.low low_found.number low_is low_found.is)
            low_found.stands;
        high_stands =
            stands_there pair.high high_found.number y (number_is b j pair.high high_found.number high_is high_found.is)
            high_found.stands;
        in_low = eqb-true (group_of claim x) a low_found.passes;
        in_high = eqb-true (group_of claim y) b high_found.passes;
        apart = λ fits. not_fit
            (subst (λ (m : Mark). Compatible m (get_or highs j d))
            (sym (at_map (low_mark claim.reading) (group_exchanges claim xs a) i x d at_x))
            (subst (λ (m : Mark). Compatible (low_mark claim.reading x) m)
            (sym (at_map (high_mark claim.reading) (group_exchanges claim xs b) j y d at_y)) fits));
      }

      low_number : slice_get (group_numbers claim xs a) i ≡ Some pair.low
      low_number = low_found.is
          ∙ ap Some (let same = number_is a i pair.low low_found.number low_is low_found.is in omega (arith, same))

      high_number : slice_get (group_numbers claim xs b) j ≡ Some pair.high
      high_number = high_found.is
          ∙ ap Some (let same = number_is b j pair.high high_found.number high_is high_found.is in omega (arith, same))

      module _ (other : Pair) (h : IsApart claim xs a b other) (i' j' : ℕ)
          (at_i : slice_get (group_exchanges claim xs a) i' ≡ Some h.low)
          (at_j : slice_get (group_exchanges claim xs b) j' ≡ Some h.high)
          (is_i : slice_get (group_numbers claim xs a) i' ≡ Some (0 + other.low))
          (is_j : slice_get (group_numbers claim xs b) j' ≡ Some (0 + other.high)) where
        others_apart : Compatible (get_or lows i' d) (get_or highs j' d) → ⊥
        others_apart fits = h.apart
            (subst (λ (m : Mark). Compatible m (high_mark claim.reading h.high))
            (at_map (low_mark claim.reading) (group_exchanges claim xs a) i' h.low d at_i)
            (subst (λ (m : Mark). Compatible (get_or lows i' d) m)
            (at_map (high_mark claim.reading) (group_exchanges claim xs b) j' h.high d at_j) fits))

        high_below : j' < length highs
        high_below = within_map (high_mark claim.reading) (group_exchanges claim xs b) j' h.high at_j

        not_before : i' < i → ⊥
        not_before lt = others_apart (first.earlier i' d (omega arith) lt j' d high_below)

        not_before_high : i ≡ i' → j' < j → ⊥
        not_before_high same lt = others_apart
            (subst (λ (k : ℕ). Compatible (get_or lows k d) (get_or highs j' d)) same
            ((first.first_of_it d).earlier j' d (omega arith) lt))

        low_less : i < i' → pair.low < other.low
        low_less lt = omega (arith, rising (is_of a) 0 xs i i' pair.low (0 + other.low) low_number is_i lt)

        low_same : i ≡ i' → pair.low ≡ other.low
        low_same same =
            omega (arith, one_there (group_numbers claim xs a) i i' pair.low (0 + other.low) low_number is_i same)

        high_no_more : j ≤ j' → pair.high ≤ other.high
        high_no_more le = omega (arith, no_less (is_of b) xs j j' pair.high (0 + other.high) high_number is_j le)

        these_no_later : IsNoLater pair other
        these_no_later = ⊎_elim (λ (lt : i' < i). absurd (not_before lt))
            (λ (le : i ≤ i'). ⊎_elim (λ (gt : i < i'). inl (low_less gt))
            (λ (ge : i' ≤ i). let same : i ≡ i' = omega arith in
            inr (low_same same, high_no_more (grind (arith, not_before_high same)))) (cases_lt i i')) (cases_lt i' i)

      no_later_than_others : (other : Pair) → IsApart claim xs a b other → IsNoLater pair other
      no_later_than_others other h =
          grind (
            arith,
            let (i', at_i, is_i) = placed (is_of a) 0 xs other.low h.low h.low_stands (eq-eqb (group_of
                claim h.low) a h.in_low) in let (j', at_j, is_j) = placed (is_of b) 0 xs other.high h.high h.high_stands
                (eq-eqb (group_of claim h.high) b h.in_high) in these_no_later other h i' j' at_i at_j is_i is_j,
          )

      these_first : IsFirstOf (IsApart claim xs a b) pair
      these_first = (these_apart, no_later_than_others)

    first_apart : IsFirstOf (IsApart claim xs a b) pair
    first_apart =
        grind (
          arith,
          let (x, at_x) = mapped_at (low_mark claim.reading) (group_exchanges claim xs a) i first.within in
              let (y, at_y) = mapped_at (high_mark claim.reading) (group_exchanges claim xs b) j (first.first_of_it d).within
              in these_first x y at_x at_y,
        )

  -- what a search says of the marks that were gathered
  module _ (one other : NumberedMarks) (of_a : AreNumberedOf claim xs a one)
      (of_b : AreNumberedOf claim xs b other) where
    all_there : AllCompatible claim.drift_ppb one.lows.items other.highs.items
        → AllCompatible claim.drift_ppb (group_lows claim xs a) (group_highs claim xs b)
    all_there all = rw (← of_a.lows, ← of_b.highs) all

    first_there : (pair : Pair) → IsFirstApart claim.drift_ppb one other pair → IsFirstOf (IsApart claim xs a b) pair
    first_there pair h = first_apart h.i h.j (rw (← of_a.lows, ← of_b.highs) h.first) pair
        (rw (← of_a.numbers) h.low) (rw (← of_b.numbers) h.high) some_mark

    answers : (found : Option Contradiction) → MatchOption found
        (AllCompatible claim.drift_ppb one.lows.items other.highs.items)
        (λ c. IsFirstApart claim.drift_ppb one other (pair_of c)) → Answers (IsApart claim xs a b) found
    answers None all = none_apart (all_there all)
    answers (Some c) first = first_there (pair_of c) first

  if_any : (found : Option Contradiction) → Answers (IsContradiction claim xs a b) found
      → IsFirstIfAny claim xs a b found
  if_any None none = λ (pair, h). none pair h
  if_any (Some c) first = record { is = first.0; first = first.1 }

  module _ (pair : Pair) where
    contradiction_of : (c d : ℕ) (h : IsApart claim xs c d pair) → AreOfGroups claim a b h.low h.high
        → IsContradiction claim xs a b pair
    contradiction_of c d h groups = search rules

    by_low : IsApart claim xs a b pair → IsContradiction claim xs a b pair
    by_low h = contradiction_of a b h (inl (h.in_low, h.in_high))

    by_high : IsApart claim xs b a pair → IsContradiction claim xs a b pair
    by_high h = contradiction_of b a h (inr (h.in_low, h.in_high))

    apart_of : (h : IsContradiction claim xs a b pair) (c d : ℕ)
        → (group_of claim h.low ≡ c) × (group_of claim h.high ≡ d)
        → ¬ (AreCompatible claim.drift_ppb (low_mark claim.reading h.low) (high_mark claim.reading h.high))
        → IsApart claim xs c d pair
    apart_of h c d groups apart = search rules

  in_two_groups : a ≢ b → (x y : ℕ) → x ≡ y → ((x ≡ a) × (y ≡ b)) ⊎ ((x ≡ b) × (y ≡ a)) → ⊥
  in_two_groups differ x y same h = grind (arith, h)

  either_way : a ≢ b → (pair : Pair) → IsContradiction claim xs a b pair
      → IsApart claim xs a b pair ⊎ IsApart claim xs b a pair
  either_way differ pair h = grind arith

-- ---- of two groups

abbrev IsSearched : ℕ → NumberedMarks → NumberedMarks → Option Contradiction → Type 0
IsSearched ppb one other found = MatchOption found (AllCompatible ppb one.lows.items other.highs.items)
    (λ c. IsFirstApart ppb one other (pair_of c))

module _ (claim : ClaimData) (xs : List Exchange) (ppb : ℕ) (rate : claim.drift_ppb ≡ ppb) where
  at_rate : (one other : NumberedMarks) (found' : Option Contradiction) → IsSearched ppb one other found'
      → IsSearched claim.drift_ppb one other found'
  at_rate one other found' h = rw rate h

  pub first_of_two : (a b : ℕ) (one other : NumberedMarks) (forth back : Option Contradiction) → a ≢ b
      → AreNumberedOf claim xs a one → AreNumberedOf claim xs b other → IsSearched ppb one other forth
      → IsSearched ppb other one back → IsFirstIfAny claim xs a b (earlier forth back)
  first_of_two a b one other forth back differ of_a of_b is_forth is_back =
      grind (
        arith,
        if_any claim xs a b (earlier forth back) (first_of_both (IsApart claim xs a b) (IsApart claim xs b
            a) (IsContradiction claim xs a b) (by_low claim xs a b) (by_high claim xs a b) (either_way claim xs a b differ)
            forth back (answers claim xs a b one other of_a of_b forth (at_rate one other forth is_forth)) (answers claim xs
            b a other one of_b of_a back (at_rate other one back is_back))),
      )

-- ---- of one group

-- an exchange of the group that is impossible by itself, in place of two
record IsAlone (claim : ClaimData) (xs : List Exchange) (group : ℕ) (pair : Pair) : Type 0 where
  same : pair.low ≡ pair.high
  at : IsImpossibleAt claim xs group pair.low

module _ (claim : ClaimData) (xs : List Exchange) (a : ℕ) where
  alone_first : (k : ℕ) (pair : Pair) → IsFirstImpossible claim xs a k → IsAlone claim xs a pair
      → IsNoLater record { low = k; high = k } pair
  alone_first k pair first h = grind (arith, h.same, first.first pair.low, h.at)

  alone_answers : (alone : Option ℕ) → MatchOption alone ((k : ℕ) → IsImpossibleAt claim xs a k → ⊥)
      (λ k. IsFirstImpossible claim xs a k) → Answers (IsAlone claim xs a) (twice alone)
  alone_answers None none = λ pair h. none pair.low h.at
  alone_answers (Some k) first = (record { same = refl; at = first.is }, λ pair h. alone_first k pair first h)

  alone_is : (pair : Pair) → IsAlone claim xs a pair → IsContradiction claim xs a a pair
  alone_is pair h = grind arith

  apart_or_alone : (pair : Pair) → IsContradiction claim xs a a pair
      → IsApart claim xs a a pair ⊎ IsAlone claim xs a pair
  apart_or_alone pair h = search rules

  pub first_of_own : (ppb : ℕ) → claim.drift_ppb ≡ ppb → (marks : NumberedMarks) (apart : Option Contradiction)
      → AreNumberedOf claim xs a marks → IsSearched ppb marks marks apart
      → IsFirstIfAny claim xs a a (earlier apart (twice marks.alone))
  first_of_own ppb rate marks apart of_a searched =
      grind (
        arith,
        if_any claim xs a a (earlier apart (twice marks.alone)) (first_of_both (IsApart claim xs a a)
            (IsAlone claim xs a) (IsContradiction claim xs a a) (by_low claim xs a a) alone_is apart_or_alone apart (twice
            marks.alone) (answers claim xs a a marks marks of_a of_a apart (at_rate claim xs ppb rate marks marks apart
            searched)) (alone_answers marks.alone of_a.alone)),
      )

-- ---- the same of equal lists

pub first_same : (ppb : ℕ) (ls ls' hs hs' : List Mark) → ls ≡ ls' → hs ≡ hs' → (i j : ℕ)
    → IsFirstConflict ppb ls hs i j → IsFirstConflict ppb ls' hs' i j
first_same ppb ls ls' hs hs' same_lows same_highs i j h = rw (← same_lows, ← same_highs) h
