-- Lists that loops make.
use Rattle.std.proofs.Common.{get_or-set_other, get_or-set_same}
use Rattle.finder.proofs.Common.{◌≡◌, ℕ, zero, suc, ◌+◌, ◌<◌, ◌≤◌, Bool, true, false, List, [], ◌∷◌, ◌++◌, length, take, get_or, Option, Some, None, ⊎_elim, refl, sym, ap, ◌∙◌, subst, arith, All, Any, set, nat_tests, ◌==◌, filter_map, cons_option, find, range_with_len, cases_lt, append-nil, take_more, All-nil, filter_map-append, by_test, range_with_len_more, All-cons_option, slice_get, slice_get_within, get_or_from_slice_get}

-- one more element of which h gives something
pub filter_map_more : {X Y : Type 0} (h : X → Option Y) (xs : List X) (i : ℕ) (d : X) (y : Y) (old new : List Y)
    → old ≡ filter_map h (take i xs) → i < length xs → h (get_or xs i d) ≡ Some y → new ≡ old ++ y ∷ []
    → new ≡ filter_map h (take (i + 1) xs)
filter_map_more h xs i d y old new so_far within gives pushed =
    grind (arith, take_more xs i d within, filter_map-append h (take i xs) (get_or xs i d ∷ []))

-- the elements up to one and with it
pub take_one_more : {X : Type 0} (xs : List X) (i : ℕ) (x : X) → slice_get xs i ≡ Some x
    → take (i + 1) xs ≡ take i xs ++ x ∷ []
take_one_more xs i x at = rw (take_more xs i x (slice_get_within xs i x at), get_or_from_slice_get xs i x x at) refl

-- with one element set, what holds of it and of each other holds of all
pub holds_with_set : {X : Type 0} (P : ℕ → X → Type 0) (xs : List X) (at n : ℕ) (now d : X) → at < length xs
    → P at now → ((k : ℕ) → k < n → (k ≡ at → ⊥) → P k (get_or xs k d)) → (k : ℕ) → k < n
    → P k (get_or (set xs at now) k d)
holds_with_set P xs at n now d within here others k below = by_test (k == at)
    (λ test.
    let same : k ≡ at = grind (arith, nat_tests) in
    subst (λ (j : ℕ). P j (get_or (set xs at now) j d)) (sym same)
    (subst (P at) (sym (get_or-set_same xs at now d within)) here))
    (λ test.
    let other : k ≡ at → ⊥ = grind (arith, nat_tests) in
    subst (P k) (sym (get_or-set_other xs at k now d other)) (others k below other))

-- ---- numbers from one on

module _ {Y : Type 0} (h : ℕ → Option Y) (n : ℕ) where
  pub one_more : filter_map h (range_with_len 0 (n + 1)) ≡ filter_map h (range_with_len 0 n) ++ cons_option (h n) []
  one_more =
      ap (filter_map h) (range_with_len_more 0 n n (omega arith)) ∙ filter_map-append h (range_with_len 0 n) (n ∷ [])

  pub without : (old : List Y) → old ≡ filter_map h (range_with_len 0 n) → h n ≡ None
      → old ≡ filter_map h (range_with_len 0 (n + 1))
  without old so_far gives = grind (arith, one_more, append-nil)

-- something that h gives of numbers from s on has what it gives of one of them
pub any_given : {Y : Type 0} (h : ℕ → Option Y) (P : Y → Type 0) (k : ℕ) (y : Y) → h k ≡ Some y → P y → (s n : ℕ)
    → s ≤ k → k < s + n → Any P (filter_map h (range_with_len s n))
any_given h P k y is holds s zero from to = absurd (omega arith)
any_given {Y} h P k y is holds s (suc n) from to = ⊎_elim
    (λ less. later (h s) _ (any_given h P k y is holds (s + 1) n (omega arith) (omega arith)))
    (λ le.
    let same : k ≡ s = omega arith in
    subst (λ (o : Option Y). Any P (cons_option o (filter_map h (range_with_len (s + 1) n)))) (sym is ∙ ap h same)
    (0, y, omega arith, refl, holds))
    (cases_lt s k)
  where
    later : (o : Option Y) (ys : List Y) → Any P ys → Any P (cons_option o ys)
    later None ys any = any
    later (Some z) ys any = (suc any.0, any.1, omega arith, any.3, any.4)

-- ---- the first that passes a test

module _ (test : ℕ → Bool) where
  pub find_none : (a n : ℕ) → ((k : ℕ) → a ≤ k → k < a + n → test k ≡ false)
      → find test (range_with_len a n) ≡ None
  find_none a zero fails = refl
  find_none a (suc n) fails =
      rw (fails a (omega arith) (omega arith))
      (find_none (a + 1) n (λ k from to. fails k (omega arith) (omega arith)))

  pub find_first : (a n k : ℕ) → a ≤ k → k < a + n → ((j : ℕ) → a ≤ j → j < k → test j ≡ false) → test k ≡ true
      → find test (range_with_len a n) ≡ Some k
  find_first a zero k from to fails passes = absurd (omega arith)
  find_first a (suc n) k from to fails passes = ⊎_elim
      (λ less. rw (fails a (omega arith) less)
      (find_first (a + 1) n k (omega arith) (omega arith) (λ j from' to'. fails j (omega arith) to') passes))
      (λ le.
      let same : a ≡ k = omega arith in
      let here : test a ≡ true = subst (λ (x : ℕ). test x ≡ true) (sym same) passes in
      rw here (ap Some same))
      (cases_lt a k)

  -- what is found
  pub record IsFirst (a n k : ℕ) : Type 0 where
    pub from : a ≤ k
    pub to : k < a + n
    pub passes : test k ≡ true
    pub others_fail : (j : ℕ) → a ≤ j → j < k → test j ≡ false

  pub find_is_first : (a n k : ℕ) → find test (range_with_len a n) ≡ Some k → IsFirst a n k
  find_is_first a zero k e = absurd cc
  find_is_first a (suc n) k e = by_test (test a)
      (λ here.
      let same : a ≡ k = (let found : Some a ≡ Some k = sym (rw here refl) ∙ e in cc) in
      record {
        from = omega arith;
        to = omega arith;
        passes = subst (λ (x : ℕ). test x ≡ true) same here;
        others_fail = λ j from to. absurd (omega arith);
      })
      (λ not_here.
      let rest = find_is_first (a + 1) n k (rw not_here at e) in
      let from = rest.from in
      let to = rest.to in
      record {
        from = omega arith;
        to = omega arith;
        passes = rest.passes;
        others_fail = λ j from' to'. ⊎_elim
            (λ less. rest.others_fail j (omega arith) to')
            (λ le. let same : a ≡ j = omega arith in subst (λ (x : ℕ). test x ≡ false) same not_here)
            (cases_lt a j);
      })

  pub find_is_none : (a n : ℕ) → find test (range_with_len a n) ≡ None → (k : ℕ) → a ≤ k → k < a + n
      → test k ≡ false
  find_is_none a zero e k from to = absurd (omega arith)
  find_is_none a (suc n) e k from to = by_test (test a)
      (λ here. absurd (let found : Some a ≡ None = sym (rw here refl) ∙ e in cc))
      (λ not_here. ⊎_elim
      (λ less. find_is_none (a + 1) n (rw not_here at e) k (omega arith) (omega arith))
      (λ le. let same : a ≡ k = omega arith in subst (λ (x : ℕ). test x ≡ false) same not_here)
      (cases_lt a k))

-- ---- what holds of whatever h gives

pub All-filter_map : {X Y : Type 0} (h : X → Option Y) (P : Y → Type 0) → ((x : X) (y : Y) → h x ≡ Some y → P y)
    → (xs : List X) → All P (filter_map h xs)
All-filter_map h P holds [] = All-nil P
All-filter_map h P holds (x ∷ xs) =
    All-cons_option P (h x) (filter_map h xs) (holds x) (All-filter_map h P holds xs)
