-- Parts of which each is of the group that has its place's number.
use Rattle.span_cover.proofs.Common.{◌≡◌, ℕ, zero, suc, ◌+◌, ◌<◌, ◌==◌, List, [], ◌∷◌, Bool, cond, Option, None, Some, refl, arith, ap, ◌∙◌, fold, filter, slice_get, option_map, option_to_list, group_interval, narrowed, group_of, AreTheirOwn, Part, ne_eqb, eq-eqb}

module _ (key : Part → ℕ) where
  -- their keys count up from this number
  abbrev Count : ℕ → List Part → Type 0
  Count from parts = (i : ℕ) (part : Part) → slice_get parts i ≡ Some part → key part ≡ from + i

  later : (from : ℕ) (first : Part) (parts : List Part) → Count from (first ∷ parts) → Count (from + 1) parts
  later from first parts count i part at = let is = count (suc i) part at in omega arith

  none_before : (from n : ℕ) (parts : List Part) → Count from parts → n < from
      → filter (λ part. key part == n) parts ≡ []
  none_before from n [] count less = refl
  none_before from n (part ∷ parts) count less =
      let here = count 0 part refl in
      let differs = ne_eqb (key part) n (λ is. omega arith) in
      ap (λ (b : Bool). cond b (part ∷ filter (λ x. key x == n) parts) (filter (λ x. key x == n) parts)) differs
      ∙ none_before (from + 1) n parts (later from part parts count) (omega arith)

  pub one_each : (from g n : ℕ) (parts : List Part) → Count from parts → n ≡ from + g
      → filter (λ part. key part == n) parts ≡ option_to_list (slice_get parts g)
  one_each from g n [] count is = refl
  one_each from zero n (part ∷ parts) count is =
      let here = count 0 part refl in
      let found = eq-eqb (key part) n (omega arith) in
      ap (λ (b : Bool). cond b (part ∷ filter (λ x. key x == n) parts) (filter (λ x. key x == n) parts)) found
      ∙ ap (λ (xs : List Part). part ∷ xs) (none_before (from + 1) n parts (later from part parts count) (omega arith))
  one_each from (suc g) n (part ∷ parts) count is =
      let here = count 0 part refl in
      let differs = ne_eqb (key part) n (λ e. omega arith) in
      ap (λ (b : Bool). cond b (part ∷ filter (λ x. key x == n) parts) (filter (λ x. key x == n) parts)) differs
      ∙ one_each (from + 1) g n parts (later from part parts count) (omega arith)

-- the interval of a group is that of the part of its number
of_one : (part : Option Part) → fold narrowed None (option_to_list part) ≡ option_map (λ p. p.interval) part
of_one None = refl
of_one (Some part) = refl

pub group_interval-own : (groups : List ℕ) (parts : List Part) (group : ℕ) → AreTheirOwn groups parts
    → group_interval groups parts group ≡ option_map (λ p. p.interval) (slice_get parts group)
group_interval-own groups parts group own =
    ap (fold narrowed None)
    (one_each (group_of groups) 0 group group parts (λ i part at. own i part at ∙ omega arith) (omega arith))
    ∙ of_one (slice_get parts group)
