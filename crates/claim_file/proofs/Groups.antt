-- Lists of server numbers, and groups as they are read.
use Rattle.claim_file.proofs.Common.{◌≡◌, ℕ, zero, suc, ◌+◌, ◌-◌, ◌<◌, ◌≤◌, ◌==◌, nat_lt, true, not, cond, List, [], ◌∷◌, ◌++◌, length, map, Vec, Global, refl, sym, ap, ◌∙◌, arith, and_parts, length-append, append_assoc, Some, get_or, drop, drop-cons, nat_tests, get_or-range_with_len, length-range_with_len, AllPass-from_list_all, sum_by-cons, concat, list_all, list_any, position_from, range_with_len, servers_of, times_listed, ints}
use Rattle.std.proofs.lemmas.List.{length-map}

-- the numbers from a up to n, with the first apart
pub range_front : (a n : ℕ) → a < n → range_with_len a (n - a) ≡ a ∷ range_with_len (a + 1) (n - (a + 1))
range_front a n less = grind (arith, ints, nat_tests)

-- one more element at the end of what was found
pub found_more : {X : Type 0} {all grown rest others : List X} {x : X} (front : List X) →
    all ≡ front ++ rest → rest ≡ x ∷ others → grown ≡ front ++ x ∷ [] → all ≡ grown ++ others
found_more {X} {all} {grown} {rest} {others} {x} front known split pushed =
    known ∙ ap (λ r. front ++ r) split ∙ sym (append_assoc front (x ∷ []) others) ∙ ap (λ f. f ++ others) (sym pushed)

-- the search goes past the group at k, or ends there
pub group_at : (server : ℕ) (groups : List (Vec ℕ Global)) (k : ℕ) (group : Vec ℕ Global) →
    group ≡ get_or groups k group → k < length groups →
    position_from (λ g. list_any (λ s. s == server) g) k (map (λ list. list.items) (drop k groups))
    ≡ cond (list_any (λ s. s == server) group.items) (Some k)
    (position_from (λ g. list_any (λ s. s == server) g) (k + 1) (map (λ list. list.items) (drop (k + 1) groups)))
group_at server groups k group is less = grind (arith, ints, nat_tests, drop-cons)

-- how many numbers of the list are below n, counted number by number
abbrev tally : ℕ → List ℕ → ℕ
tally zero xs = 0
tally (suc n) xs = tally n xs + times_listed n xs

pub times_listed-cons : (s x : ℕ) (xs : List ℕ) → times_listed s (x ∷ xs) ≡ cond (x == s) 1 0 + times_listed s xs
times_listed-cons s x xs = sum_by-cons (λ y. cond (y == s) 1 0) x xs

tally-cons : (n x : ℕ) (xs : List ℕ) → tally n (x ∷ xs) ≡ cond (nat_lt x n) 1 0 + tally n xs
tally-cons zero x xs = grind (arith, nat_tests)
tally-cons (suc n) x xs = rw (times_listed-cons n x xs, tally-cons n x xs) (grind (arith, nat_tests))

tally-nil : (n : ℕ) → tally n [] ≡ 0
tally-nil zero = refl
tally-nil (suc n) = ap (λ t. t + 0) (tally-nil n)

-- where all are below n, all are counted
tally-below : (n : ℕ) (xs : List ℕ) → list_all (λ s. nat_lt s n) xs ≡ true → tally n xs ≡ length xs
tally-below n [] below = tally-nil n
tally-below n (x ∷ xs) below =
    let (here, others) = and_parts (nat_lt x n) _ below in
    rw (tally-cons n x xs, here, tally-below n xs others) (omega arith)

-- where each stands once, n are counted
tally-once : (n : ℕ) (xs : List ℕ) → ((s : ℕ) → s < n → times_listed s xs ≡ 1) → tally n xs ≡ n
tally-once zero xs once = refl
tally-once (suc n) xs once = rw (tally-once n xs (λ s less. once s (omega arith)), once n (omega arith)) (omega arith)

length-concat : (groups : List (List ℕ)) → list_all (λ group. not (length group == 0)) groups ≡ true →
    length groups ≤ length (concat groups)
length-concat [] filled = omega arith
length-concat (g ∷ gs) filled =
    let (here, others) = and_parts (not (length g == 0)) _ filled in
    let rest : length gs ≤ length (concat gs) = length-concat gs others in
    let some : 0 < length g = grind (arith, nat_tests) in
    rw (length-append g (concat gs)) (omega arith)

pub once_each : (n : ℕ) (xs : List ℕ) → list_all (λ s. times_listed s xs == 1) (servers_of n) ≡ true → (s : ℕ) → s < n →
    times_listed s xs ≡ 1
once_each n xs once s less =
    let at = AllPass-from_list_all (λ k. times_listed k xs == 1) (servers_of n) once s 0
    (rw (length-range_with_len 0 n) less) in
    let named = rw (get_or-range_with_len 0 n s 0 less) at at in
    grind (arith, nat_tests)

-- n servers have at most n groups
pub length-groups : (n : ℕ) (groups : List (List ℕ)) →
    list_all (λ group. not (length group == 0)) groups ≡ true →
    list_all (λ s. nat_lt s n) (concat groups) ≡ true →
    list_all (λ s. times_listed s (concat groups) == 1) (servers_of n) ≡ true →
    length groups ≤ n
length-groups n groups filled below once =
    omega (
      arith,
      tally-below n (concat groups) below,
      tally-once n (concat groups) (once_each n (concat groups) once),
      length-concat groups filled,
    )

-- the same of groups as they stand in memory, beside their numbers
pub few_groups : (n : ℕ) (groups : List (Vec ℕ Global)) (numbers : List ℕ) →
    numbers ≡ concat (map (λ list. list.items) groups) →
    list_all (λ group. not (length group == 0)) (map (λ list. list.items) groups) ≡ true →
    list_all (λ s. nat_lt s n) numbers ≡ true →
    list_all (λ s. times_listed s numbers == 1) (servers_of n) ≡ true →
    length groups ≤ n
few_groups n groups numbers known filled below once =
    let here = rw known at below in
    let each = rw known at once in
    rw (← length-map groups (λ list. list.items)) (length-groups n (map (λ list. list.items) groups) filled here each)
