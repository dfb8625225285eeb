-- The numbers and marks of a group, as they are gathered.
use Rattle.feasibility.proofs.Common.{rules, ◌≡◌, ℕ, ◌+◌, ◌<◌, ◌≤◌, ⊎_elim, List, [], ◌∷◌, ◌++◌, drop, length, map, Bool, true, false, refl, sym, ap, ◌∙◌, subst, get_or, arith, All, ◌==◌, filter, MatchOption, drop_of_length-le, get_or-append, length-append, append_snoc, get_or-append_seam, ClaimData, low_mark, high_mark, IsWithinRange, Mark, Exchange, group_of, group_lows, group_highs, numbers_from, group_numbers, AreNumberedOf, IsImpossibleAt, IsFirstImpossible, not_lt_zero}
use Rattle.std.proofs.lemmas.List.{append-nil}
use Rattle.feasibility.proofs.KeptMarkLists.{with_last}
use Rattle.feasibility.proofs.PassingNumbers.{counted}
use Rattle.feasibility.specs.declared.numbered_marks.NumberedMarks.{NumberedMarks}

-- the exchanges before the one with this number were gone through
pub record IsNumbering (claim : ClaimData) (group : ℕ) (xs : List Exchange) (k : ℕ) (numbers : List ℕ)
    (lows highs : List Mark) : Type 0 where
  pub numbers_are :
      group_numbers claim xs group ≡ numbers ++ numbers_from (λ x. group_of claim x == group) k (drop k xs)
  pub lows_are : group_lows claim xs group ≡ lows ++ group_lows claim (drop k xs) group
  pub highs_are : group_highs claim xs group ≡ highs ++ group_highs claim (drop k xs) group
  pub low_count : length lows ≡ length numbers
  pub high_count : length highs ≡ length numbers
  pub low_range : All IsWithinRange lows
  pub high_range : All IsWithinRange highs

as_many : (ms ms' : List Mark) (m : Mark) (ns ns' : List ℕ) (n : ℕ) → ms' ≡ ms ++ m ∷ [] → ns' ≡ ns ++ n ∷ []
    → length ms ≡ length ns → length ms' ≡ length ns'
as_many ms ms' m ns ns' n is is' same =
    omega (arith, ap length is ∙ length-append ms (m ∷ []), ap length is' ∙ length-append ns (n ∷ []))

module _ (claim : ClaimData) (group : ℕ) (xs : List Exchange) where
  abbrev is_of : Exchange → Bool
  is_of x = group_of claim x == group

  module _ (k : ℕ) (x : Exchange) (numbers : List ℕ) (lows highs : List Mark) (split : drop k xs ≡ x ∷ drop (k + 1) xs)
      (before : IsNumbering claim group xs k numbers lows highs) where
    abbrev rest : List Exchange
    rest = drop (k + 1) xs

    pub past_other : is_of x ≡ false → IsNumbering claim group xs (k + 1) numbers lows highs
    past_other other = search rules

    module _ (numbers' : List ℕ) (lows' highs' : List Mark) (numbers_grow : numbers' ≡ numbers ++ k ∷ [])
        (lows_grow : lows' ≡ lows ++ low_mark claim.reading x ∷ [])
        (highs_grow : highs' ≡ highs ++ high_mark claim.reading x ∷ []) where
      marks_past : (f : Exchange → Mark) (whole ms ms' : List Mark) → is_of x ≡ true
          → whole ≡ ms ++ map f (filter is_of (drop k xs)) → ms' ≡ ms ++ f x ∷ []
          → whole ≡ ms' ++ map f (filter is_of rest)
      marks_past f whole ms ms' own is grow = grind (arith, append_snoc ms (f x) (map f (filter is_of rest)))

      pub past_own : is_of x ≡ true → IsWithinRange (low_mark claim.reading x)
          → IsWithinRange (high_mark claim.reading x) → IsNumbering claim group xs (k + 1) numbers' lows' highs'
      past_own own low high = record {
        numbers_are = before.numbers_are ∙ ap (λ (ys : List Exchange). numbers ++ numbers_from is_of k ys) split
            ∙ ap (λ (ns : List ℕ). numbers ++ ns) (counted is_of k x rest own)
            ∙ sym (append_snoc numbers k (numbers_from is_of (k + 1) rest))
            ∙ ap (λ (ns : List ℕ). ns ++ numbers_from is_of (k + 1) rest) (sym numbers_grow);
        lows_are = marks_past (low_mark claim.reading) _ lows lows' own before.lows_are lows_grow;
        highs_are = marks_past (high_mark claim.reading) _ highs highs' own before.highs_are highs_grow;
        low_count = as_many lows lows' _ numbers numbers' k lows_grow numbers_grow before.low_count;
        high_count = as_many highs highs' _ numbers numbers' k highs_grow numbers_grow before.high_count;
        low_range = with_last lows (low_mark claim.reading x) lows' lows_grow before.low_range low;
        high_range = with_last highs (high_mark claim.reading x) highs' highs_grow before.high_range high;
      }

  -- at the end they are all
  pub all_numbered : (k : ℕ) (marks : NumberedMarks) → length xs ≤ k
      → IsNumbering claim group xs k marks.numbers.items marks.lows.items marks.highs.items
      → MatchOption marks.alone ((j : ℕ) → ¬ (IsImpossibleAt claim xs group j)) (IsFirstImpossible claim xs group)
      → AreNumberedOf claim xs group marks
  all_numbered k marks past gone alone =
      let none : drop k xs ≡ [] = drop_of_length-le xs past in
      record {
        numbers = sym (gone.numbers_are ∙ rw none (append-nil marks.numbers.items));
        lows = sym (gone.lows_are ∙ rw none (append-nil marks.lows.items));
        highs = sym (gone.highs_are ∙ rw none (append-nil marks.highs.items));
        alone = alone;
      }

-- ---- a list for each group, one group after another

module _ {X : Type 0} (P : ℕ → X → Type 0) where
  abbrev EachInOrder : List X → Type 0
  EachInOrder items = (k : ℕ) (d : X) → k < length items → P k (get_or items k d)

  pub none_in_order : (items : List X) → items ≡ [] → EachInOrder items
  none_in_order items is k d below = absurd (not_lt_zero k (subst (λ (ms : List X). k < length ms) is below))

  module _ (before : List X) (last : X) (items : List X) (is : items ≡ before ++ last ∷ []) where
    pub one_longer : (n : ℕ) → length before ≡ n → length items ≡ n + 1
    one_longer n same = ap length is ∙ length-append before (last ∷ []) ∙ ap (λ (k : ℕ). k + 1) same

    pub one_more_in_order : (n : ℕ) → length before ≡ n → EachInOrder before → P n last → EachInOrder items
    one_more_in_order n same each of_last k d below = ⊎_elim
        (λ (lt : k < length before). subst (P k)
        (sym (ap (λ (ms : List X). get_or ms k d) is ∙ get_or-append before (last ∷ []) d k lt)) (each k d lt))
        (λ (eq : k ≡ length before). subst (λ (j : ℕ). P j (get_or items j d)) (sym eq)
        (subst (P (length before))
        (sym (ap (λ (ms : List X). get_or ms (length before) d) is ∙ get_or-append_seam before last [] d))
        (subst (λ (j : ℕ). P j last) (sym same) of_last)))
        (let long = one_longer (length before) refl in grind arith)
