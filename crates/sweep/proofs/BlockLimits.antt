-- The limits of blocks, and the first block that reaches a height.
use Rattle.sweep.proofs.Common.{◌≡◌, ℕ, ◌+◌, ◌*◌, ◌/◌, ◌<◌, ◌≤◌, max, List, length, Some, set, get_or, arith, subst, sym, ◌∙◌, ap, ◌⊎◌, inl, inr, ⊎_elim, slice_get, cases_lt, cases_eq, length-set, length-set, get_or-set_same, get_or-set_other, slice_get-get_or, get_or_from_slice_get, div-div-eq-div-mul, IsReached, IsFirstBlock, IsLimitOf, AreLimitsOf, AreUpto, Arrival}
use Rattle.sweep.proofs.List.{below_next}

-- ---- one arrival more

module _ (queue : List Arrival) (n width : ℕ) (limits : List ℕ) (are : AreLimitsOf queue n width limits) (a : Arrival)
    (here : slice_get queue n ≡ Some a) (block : ℕ) (in_block : a.index / width ≡ block)
    (old limit : ℕ) (was : old ≡ get_or limits block old) (is_raised : limit ≡ max old (a.height + 1)) where
  within : block < length limits
  within = subst (λ (b : ℕ). b < length limits) in_block (are.room n a here)

  is : limit ≡ max (get_or limits block 0) (a.height + 1)
  is =
      is_raised
      ∙ ap (λ (x : ℕ). max x (a.height + 1)) (was ∙ sym (get_or_from_slice_get limits block (get_or limits block old) 0
      (slice_get-get_or limits block old within)))

  grows : (b : ℕ) → get_or limits b 0 ≤ get_or (set limits block limit) b 0
  grows b = ⊎_elim
      (λ same. rw (← same) (omega (arith, is, get_or-set_same limits block limit 0 within)))
      (λ other. omega (arith, get_or-set_other limits block b limit 0 (λ same. other (sym same))))
      (cases_eq block b)

  above : (turn : ℕ) (x : Arrival) → turn < n + 1 → slice_get queue turn ≡ Some x →
      x.height < get_or (set limits block limit) (x.index / width) 0
  above =
      below_next (λ turn x. x.height < get_or (set limits block limit) (x.index / width) 0) queue n a here
      (λ turn x old stands. omega (arith, are.above turn x old stands, grows (x.index / width)))
      (subst (λ (k : ℕ). a.height < get_or (set limits block limit) k 0) (sym in_block)
      (omega (arith, is, get_or-set_same limits block limit 0 within)))

  Of : ℕ → ℕ → Type 0
  Of b x = (x ≡ 0) ⊎ IsLimitOf queue (n + 1) (λ index. index / width ≡ b) x

  kept : (b : ℕ) → Of b (get_or limits b 0)
  unfolding Of
  kept b = ⊎_elim (λ none. inl none) (λ one. inr (grind arith)) (are.of_one b)

  raised : Of block limit
  unfolding Of
  raised = ⊎_elim
      (λ less. inr (grind (arith, is)))
      (λ le.
      let same : get_or limits block 0 ≡ limit = omega (arith, is) in
      rw (← same) (kept block))
      (cases_lt (get_or limits block 0) (a.height + 1))

  of_one : (b : ℕ) → (get_or (set limits block limit) b 0 ≡ 0)
      ⊎ IsLimitOf queue (n + 1) (λ index. index / width ≡ b) (get_or (set limits block limit) b 0)
  unfolding Of
  of_one b = ⊎_elim
      (λ same. rw (← same, get_or-set_same limits block limit 0 within) raised)
      (λ other. rw (get_or-set_other limits block b limit 0 (λ same. other (sym same))) (kept b))
      (cases_eq block b)

  pub AreLimitsOf-more : AreLimitsOf queue (n + 1) width (set limits block limit)
  AreLimitsOf-more = record {
    few = omega (arith, are.few, length-set {A = ℕ} limits block limit);
    room = λ turn x stands.
        let inside = are.room turn x stands in omega (arith, length-set {A = ℕ} limits block limit);
    above = above;
    of_one = of_one;
  }

-- ---- what has come

module _ (queue : List Arrival) (place n height : ℕ) (upto : AreUpto queue place n) where
  pub has_come : (index : ℕ) (reached : IsReached queue place height index) → reached.turn < n
  has_come index reached = grind (arith, upto.beyond reached.turn reached.arrival)

  -- what is below a limit is reached by the one whose limit it is
  pub reached_below : (holds : ℕ → Type 0) (limit : ℕ) → (limit ≡ 0) ⊎ IsLimitOf queue n holds limit → height < limit →
      (index : ℕ) × IsReached queue place height index × holds index
  reached_below holds limit of_one below = grind arith

module _ (queue : List Arrival) (place height width n : ℕ) (limits : List ℕ) (upto : AreUpto queue place n)
    (are : AreLimitsOf queue n width limits) where
  -- a height that is reached is below the limit of its block
  pub below_limit : (index : ℕ) → IsReached queue place height index → height < get_or limits (index / width) 0
  below_limit index reached = grind arith

  -- ---- the first of 128 blocks

  module _ (wide block : ℕ) (found : (b : ℕ) → 128 * wide ≤ b → b < 128 * wide + 128 → height < get_or limits b 0 →
      (block ≤ b) × (height < get_or limits block 0)) where
    pub narrower : IsFirstBlock queue place height (width * 128) wide → IsFirstBlock queue place height width block
    narrower is =
        let inside : is.index / width / 128 ≡ wide = div-div-eq-div-mul is.index width 128 ∙ is.in_block in
        let under = below_limit is.index is.reached in
        let at = found (is.index / width) (omega arith) (omega arith) under in
        let here = reached_below queue place n height upto _ _ (are.of_one block) at.1 in
        record {
          index = here.0;
          reached = here.1;
          in_block = here.2;
          first = λ other reached.
              let least = is.first other reached in
              grind (arith, div-div-eq-div-mul other width 128, found (other / width), below_limit other reached);
        }
