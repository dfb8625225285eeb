-- Pairs of exchanges that contradict each other, and the groups that they are of.
use Rattle.feasibility.proofs.Common.{rules, ◌≡◌, ◌≢◌, ℕ, ◌<◌, ◌≤◌, ◌⊎◌, inl, inr, ⊎_elim, List, refl, sym, ap, ◌∙◌, arith, ClaimData, Exchange, group_of, HasImpossible, Contradicts, IsBroken, DoConflict, Pair, IsContradiction, IsFirstContradiction, HasContradiction}

-- ---- the first is one

both_first : (a b c d : ℕ) → (a < c) ⊎ ((a ≡ c) × (b ≤ d)) → (c < a) ⊎ ((c ≡ a) × (d ≤ b)) → (a ≡ c) × (b ≡ d)
both_first a b c d h k = (grind (arith, h, k), grind (arith, h, k))

same_pair : (p q : Pair) → p.low ≡ q.low → p.high ≡ q.high → p ≡ q
same_pair p q low high = ap (λ (n : ℕ). record p { low = n }) low ∙ ap (λ (n : ℕ). record q { high = n }) high

pub first_is_one : (claim : ClaimData) (xs : List Exchange) (a b : ℕ) (p q : Pair)
    → IsFirstContradiction claim xs a b p → IsFirstContradiction claim xs a b q → p ≡ q
first_is_one claim xs a b p q h k =
    let (low, high) = both_first p.low p.high q.low q.high (h.first q k.is) (k.first p h.is) in
    same_pair p q low high

-- ---- pairs and groups

module _ (claim : ClaimData) (xs : List Exchange) where
  from_contradicts : (a b : ℕ) → Contradicts claim xs a b → HasContradiction claim xs a b
  from_contradicts a b h = (
    record { low = h.low_number; high = h.high_number },
    record {
      low = h.low;
      high = h.high;
      low_stands = h.low_stands;
      high_stands = h.high_stands;
      of_groups = inl (h.in_low_group, h.in_high_group);
      impossible = inl h.not_compatible;
    },
  )

  turned : (a b : ℕ) → HasContradiction claim xs a b → HasContradiction claim xs b a
  turned a b (pair, h) = search rules

  from_impossible : (group : ℕ) → HasImpossible claim xs group → HasContradiction claim xs group group
  from_impossible group h = (
    record { low = h.number; high = h.number },
    record {
      low = h.exchange;
      high = h.exchange;
      low_stands = h.stands;
      high_stands = h.stands;
      of_groups = inl (h.in_group, h.in_group);
      impossible = inr (refl, h.impossible);
    },
  )

  pub broken_has_pair : (group : ℕ) → IsBroken claim xs group → HasContradiction claim xs group group
  broken_has_pair group = ⊎_elim (λ h. from_impossible group h) (λ h. from_contradicts group group h)

  pub conflict_has_pair : (a b : ℕ) → DoConflict claim xs a b → HasContradiction claim xs a b
  conflict_has_pair a b = ⊎_elim (λ h. from_contradicts a b h) (λ h. turned b a (from_contradicts b a h))

  -- the exchanges of a pair of one number are one
  pub one_group : (a b : ℕ) (pair : Pair) (h : IsContradiction claim xs a b pair) → pair.low ≡ pair.high
      → group_of claim h.low ≡ group_of claim h.high
  one_group a b pair h same = grind arith

  not_compatible_pair : (a b : ℕ) (pair : Pair) (h : IsContradiction claim xs a b pair) → (c d : ℕ)
      → group_of claim h.low ≡ c → group_of claim h.high ≡ d
      → ((pair.low ≡ pair.high) → ⊥) → Contradicts claim xs c d
  not_compatible_pair a b pair h c d is_c is_d two = search rules

  pub pair_is_conflict : (a b : ℕ) → a ≢ b → HasContradiction claim xs a b → DoConflict claim xs a b
  pair_is_conflict a b differ (pair, h) = ⊎_elim
      (λ straight. inl (not_compatible_pair a b pair h a b straight.0 straight.1
      (λ same. differ (sym straight.0 ∙ one_group a b pair h same ∙ straight.1))))
      (λ crossed. inr (not_compatible_pair a b pair h b a crossed.0 crossed.1
      (λ same. differ (sym crossed.1 ∙ sym (one_group a b pair h same) ∙ crossed.0)))) h.of_groups

  pub pair_is_broken : (group : ℕ) → HasContradiction claim xs group group → IsBroken claim xs group
  pair_is_broken group (pair, h) =
      let groups = ⊎_elim (λ g. g) (λ g. g) h.of_groups in
      ⊎_elim
      (λ apart. inr (record {
        low_number = pair.low;
        high_number = pair.high;
        low = h.low;
        high = h.high;
        low_stands = h.low_stands;
        high_stands = h.high_stands;
        in_low_group = groups.0;
        in_high_group = groups.1;
        not_compatible = apart;
      }))
      (λ one. inl (record {
        number = pair.low;
        exchange = h.low;
        stands = h.low_stands;
        in_group = groups.0;
        impossible = one.1;
      })) h.impossible
