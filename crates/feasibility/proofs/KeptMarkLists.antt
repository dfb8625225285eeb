-- Lists of kept marks, as they are gathered.
use Rattle.feasibility.proofs.Common.{get_or, ◌≡◌, ℕ, ◌+◌, ◌<◌, suc, drop, length, Some, subst, ℤ, Bool, true, false, not, List, [], ◌∷◌, ◌++◌, map, refl, sym, ap, ap₂, ◌∙◌, arith, All, slice_index, ◌==◌, get_or_default_zero, is_outside, list_all, slice_index_or, cond-true, cond-false, All-append, All-cons, All-nil, append_snoc, drop-cons, slice_get-get_or, get_or-map, length-map, Mark, IsWithinRange, low_mark, high_mark, IsLawful as IsLawfulExchange, Exchange, is_possible, true_exchanges, low_marks, high_marks, ne_eqb, eq-eqb, ints, nat_tests}
use Rattle.std.specs.Prelude.{slice_get}

-- ---- what the element at a place shows

module _ {X : Type 0} (shown : X → Exchange) (xs : List X) {k : ℕ} {item : X} (within : k < length xs)
    (is : item ≡ get_or xs k item) {x : Exchange} (shows : x ≡ shown item) where
  is_shown : slice_index_or (map shown xs) k (shown item) ≡ x
  is_shown = get_or-map shown xs k item (shown item) within ∙ ap shown (sym is) ∙ sym shows

  -- it is the first of those that are left
  pub first_left : drop k (map shown xs) ≡ x ∷ drop (k + 1) (map shown xs)
  first_left =
      let next : suc k ≡ k + 1 = omega arith in
      drop-cons (map shown xs) k (shown item) (rw length-map within)
      ∙ ap₂ (λ y n. y ∷ drop n (map shown xs)) is_shown next

  -- it stands there
  pub shown_at : slice_get (map shown xs) k ≡ Some x
  shown_at = slice_get-get_or (map shown xs) k (shown item) (rw length-map within) ∙ ap Some is_shown

  -- it is lawful, if all that is shown is
  pub lawful_shown : {servers : ℕ} → All (IsLawfulExchange servers) (map shown xs) → IsLawfulExchange servers x
  lawful_shown {servers} each = subst (IsLawfulExchange servers) is_shown (each k (shown item) (rw length-map within))

-- what a list keeps with one more at its end
pub with_last : (ms : List Mark) (m : Mark) (items : List Mark) → items ≡ ms ++ m ∷ [] → All IsWithinRange ms
    → IsWithinRange m → All IsWithinRange items
with_last ms m items is before last =
    rw is (All-append IsWithinRange ms (m ∷ []) before (All-cons IsWithinRange m [] last (All-nil IsWithinRange)))

-- marks were gathered of the first exchanges, and these are still to come
pub record IsGathering (allowance : ℤ) (is_false : ℕ → Bool) (xs rest : List Exchange)
    (old_lows old_highs lows highs : List Mark) : Type 0 where
  pub possible : list_all (is_possible allowance) (true_exchanges is_false xs)
      ≡ list_all (is_possible allowance) (true_exchanges is_false rest)
  pub lows_are : old_lows ++ low_marks allowance is_false xs ≡ lows ++ low_marks allowance is_false rest
  pub highs_are : old_highs ++ high_marks allowance is_false xs ≡ highs ++ high_marks allowance is_false rest
  pub low_range : All IsWithinRange lows
  pub high_range : All IsWithinRange highs

-- one exchange further
module _ {X : Type 0} (shown : X → Exchange) (items : List X) {k : ℕ} {item : X} (within : k < length items)
    (is : item ≡ get_or items k item) {x : Exchange} (shows : x ≡ shown item) {allowance : ℤ} {is_false : ℕ → Bool}
    {old_lows old_highs lows highs : List Mark}
    (before : IsGathering allowance is_false (map shown items) (drop k (map shown items)) old_lows old_highs lows highs)
  where
    abbrev rest : List Exchange
    rest = drop (k + 1) (map shown items)

    skipped : is_false x.server ≡ true
        → true_exchanges is_false (drop k (map shown items)) ≡ true_exchanges is_false rest
    skipped named = ap (true_exchanges is_false) (first_left shown items within is shows)
        ∙ cond-false (not (is_false x.server)) (x ∷ true_exchanges is_false rest) (true_exchanges is_false rest)
        (ap not named)

    kept : is_false x.server ≡ false
        → true_exchanges is_false (drop k (map shown items)) ≡ x ∷ true_exchanges is_false rest
    kept true' = ap (true_exchanges is_false) (first_left shown items within is shows)
        ∙ cond-true (not (is_false x.server)) (x ∷ true_exchanges is_false rest) (true_exchanges is_false rest)
        (ap not true')

    pub past_liar : is_false x.server ≡ true
        → IsGathering allowance is_false (map shown items) rest old_lows old_highs lows highs
    past_liar named = grind (arith, ints, nat_tests, skipped named)

    pub past_kept : {lows' highs' : List Mark} → is_false x.server ≡ false → is_possible allowance x ≡ true →
        lows' ≡ lows ++ low_mark allowance x ∷ [] → highs' ≡ highs ++ high_mark allowance x ∷ [] →
        All IsWithinRange lows' → All IsWithinRange highs' →
        IsGathering allowance is_false (map shown items) rest old_lows old_highs lows' highs'
    past_kept true' can lows_grow highs_grow low_range high_range =
        grind (
          arith,
          before.possible,
          before.lows_are,
          append_snoc lows (low_mark allowance x) (low_marks allowance
              is_false rest),
          before.highs_are,
          append_snoc highs (high_mark allowance x) (high_marks allowance is_false
              rest),
          kept true',
        )

    pub stopped : is_false x.server ≡ false → is_possible allowance x ≡ false →
        false ≡ list_all (is_possible allowance) (true_exchanges is_false (map shown items))
    stopped true' cannot = sym (before.possible ∙ ap (list_all (is_possible allowance)) (kept true') ∙ rw cannot refl)

-- ---- the group of a server

pub within_groups : (server servers groups len : ℕ) → server < servers → groups ≡ servers → len ≡ groups → server < len
within_groups server servers groups len below same is = omega arith

module _ (groups : List ℕ) (group server read : ℕ) (below : server < length groups)
    (is : read ≡ slice_index_or groups server read) where
  pub read_is : slice_index groups server ≡ read
  read_is = sym (is ∙ get_or_default_zero groups server read below)

  pub is_inside : read ≡ group → is_outside groups group server ≡ false
  is_inside same = ap not (ap (λ (n : ℕ). n == group) (read_is ∙ same) ∙ eq-eqb group group refl)

  pub isnt_inside : (read ≡ group → ⊥) → is_outside groups group server ≡ true
  isnt_inside apart = ap not (ap (λ (n : ℕ). n == group) read_is ∙ ne_eqb read group apart)
