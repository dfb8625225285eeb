-- The numbers of groups that a claim gives to its servers.
use Rattle.claim_file.proofs.Common.{◌≡◌, ℕ, zero, suc, ◌+◌, ◌<◌, ◌≤◌, ◌==◌, nat_lt, true, false, not, cond, List, [], ◌∷◌, ◌++◌, length, map, get_or, Option, Some, None, unwrap_or, ◌↔◌, refl, sym, ap, ◌∙◌, subst, arith, inl, inr, nat_tests, and_parts, ltb-true, ltb-false, Decides-eqb, length-range_with_len, get_or-range_with_len, length-map-range_with_len, get_or-map-range_with_len, AllPass-from_list_all, sum_by-append, All, Contains, IsSomeAnd, slice_get, concat, list_all, list_any, position_from, IsWithoutGap, group_count, servers_of, times_listed, groups_of, group_of, is_grouping, IsInGroup, ints}
use Rattle.std.proofs.lemmas.List.Folds.{list_all-append, Any-from_list_any, list_any-from_Any}
use Rattle.std.proofs.lemmas.Bool.{cases_Bool, cases_lt, eq-eqb}
use Rattle.std.proofs.lemmas.Option.{cond_some, get_or_from_slice_get, slice_get-get_or, slice_get_within}
use Rattle.claim_file.proofs.Groups.{length-groups, once_each, times_listed-cons}

pub given_grouping : (n : ℕ) (listed : List (List ℕ)) (groups : List ℕ) → groups_of n (Some listed) ≡ Some groups →
    (is_grouping n listed ≡ true) × (map (group_of listed) (servers_of n) ≡ groups)
given_grouping n listed groups e = grind (arith, ints, nat_tests, cond_some)

-- the parts of the test
pub record IsGrouping (n : ℕ) (listed : List (List ℕ)) : Type 0 where
  pub filled : list_all (λ group. not (length group == 0)) listed ≡ true
  pub below : list_all (λ s. nat_lt s n) (concat listed) ≡ true
  pub once : (s : ℕ) → s < n → times_listed s (concat listed) ≡ 1
  pub few : length listed ≤ n

pub grouping_parts : (n : ℕ) (listed : List (List ℕ)) → is_grouping n listed ≡ true → IsGrouping n listed
grouping_parts n listed e =
    let (front, once) = and_parts _ _ e in
    let (filled, below) = and_parts _ _ front in
    record {
      filled = filled;
      below = below;
      once = once_each n (concat listed) once;
      few = length-groups n listed filled below once;
    }

-- how often a number stands in two lists, and in one that holds it
times-append : (x : ℕ) (xs ys : List ℕ) → times_listed x (xs ++ ys) ≡ times_listed x xs + times_listed x ys
times-append x xs ys = sum_by-append (λ y. cond (y == x) 1 0) xs ys

held_is : (x : ℕ) (ys : List ℕ) → list_any (λ s. s == x) ys ≡ nat_lt 0 (times_listed x ys)
held_is x [] = refl
held_is x (y ∷ ys) = rw (times_listed-cons x y ys, held_is x ys) (grind (arith, nat_tests))

held_times : (x : ℕ) (ys : List ℕ) → list_any (λ s. s == x) ys ≡ true → 1 ≤ times_listed x ys
held_times x ys e = ltb-true 0 _ (sym (held_is x ys) ∙ e)

not_held_times : (x : ℕ) (ys : List ℕ) → list_any (λ s. s == x) ys ≡ false → times_listed x ys ≡ 0
not_held_times x ys e = omega (arith, ltb-false 0 (times_listed x ys) (sym (held_is x ys) ∙ e))

-- the group at a number's place holds the number
place_holds : (x : ℕ) (i : ℕ) (groups : List (List ℕ)) → 1 ≤ times_listed x (concat groups) →
    (j : ℕ) × (unwrap_or (position_from (λ g. list_any (λ s. s == x) g) i groups) 0 ≡ i + j) × (j < length groups)
    × (list_any (λ s. s == x) (get_or groups j []) ≡ true)
place_holds x i [] some = absurd (omega arith)
place_holds x i (g ∷ gs) some =
    elim (cases_Bool (list_any (λ s. s == x) g)) [
      | inl held ↦ (0, rw held (omega arith), omega arith, held)
      | inr none ↦
          let split = times-append x g (concat gs) in
          let (j, place, below, holds) = place_holds x (i + 1) gs (omega (arith, split, not_held_times x g none)) in
          (suc j, rw none (omega arith), omega arith, holds)
    ]

-- each number of a group is below the count of those that are listed
groups_below : (n : ℕ) (listed : List (List ℕ)) (groups : List ℕ) → groups_of n (Some listed) ≡ Some groups →
    All (λ g. g < length listed) groups
groups_below n listed groups e =
    let (test, same) = given_grouping n listed groups e in
    let parts = grouping_parts n listed test in
    subst (λ gs. All (λ g. g < length listed) gs) same (λ k d less.
    let small : k < n = rw (length-map-range_with_len (group_of listed) 0 n) at less in
    let (j, place, here, _) = place_holds k 0 listed (omega (arith, parts.once k small)) in
    rw (get_or-map-range_with_len (group_of listed) 0 n k k d small (omega arith)) (omega arith))

-- each server has a group, whose number is below the count of servers
pub groups_of-range : (n : ℕ) (listed : Option (List (List ℕ))) (groups : List ℕ) → 1 ≤ n →
    groups_of n listed ≡ Some groups →
    (length groups ≡ n) × All (λ g. g < n) groups
groups_of-range n None groups some e =
    let same : servers_of n ≡ groups = cc in
    subst (λ gs. (length gs ≡ n) × All (λ g. g < n) gs) same (
      length-range_with_len 0 n,
      λ k d less. let small : k < n =
          rw (length-range_with_len 0 n) at less in rw (get_or-range_with_len 0 n k d small) (omega arith),
    )
groups_of-range n (Some listed) groups some e =
    let (test, same) = given_grouping n listed groups e in
    let parts = grouping_parts n listed test in (
      ap length (sym same) ∙ length-map-range_with_len (group_of listed) 0 n,
      λ k d less. omega (arith, groups_below n listed groups e k d less, parts.few),
    )

held_concat : (x : ℕ) (groups : List (List ℕ)) (g : ℕ) → g < length groups →
    list_any (λ s. s == x) (get_or groups g []) ≡ true → 1 ≤ times_listed x (concat groups)
held_concat x [] g less e = absurd (omega arith)
held_concat x (h ∷ hs) zero less e = omega (arith, held_times x h e, times-append x h (concat hs))
held_concat x (h ∷ hs) (suc g) less e = omega (arith, held_concat x hs g (omega arith) e, times-append x h (concat hs))

-- a number that stands once has its place at the group that holds it
place_once : (x : ℕ) (i : ℕ) (groups : List (List ℕ)) (g : ℕ) → g < length groups →
    list_any (λ s. s == x) (get_or groups g []) ≡ true → times_listed x (concat groups) ≡ 1 →
    unwrap_or (position_from (λ g. list_any (λ s. s == x) g) i groups) 0 ≡ i + g
place_once x i [] g less e once = absurd (omega arith)
place_once x i (h ∷ hs) zero less e once = rw e (omega arith)
place_once x i (h ∷ hs) (suc g) less e once =
    let later = held_concat x hs g (omega arith) e in
    let split = times-append x h (concat hs) in
    elim (cases_Bool (list_any (λ s. s == x) h)) [
      | inl held ↦ absurd (omega (arith, held_times x h held))
      | inr none ↦
          let rest = place_once x (i + 1) hs g (omega arith) e (omega (arith, not_held_times x h none)) in
          rw none (omega arith)
    ]

-- where each number is below n, the count of groups is at most n
group_count-le : (n : ℕ) (groups : List ℕ) → All (λ g. g < n) groups → group_count groups ≤ n
group_count-le n [] below = omega arith
group_count-le n (g ∷ gs) below =
    omega (arith, below 0 0 (omega arith), group_count-le n gs (λ k d less. below (suc k) d (omega arith)))

-- a group that isn't empty has a server
first_held : (g : List ℕ) → not (length g == 0) ≡ true → list_any (λ s. s == get_or g 0 0) g ≡ true
first_held [] e = cc
first_held (x ∷ g) e = rw (eq-eqb x x refl) refl

below_concat : (n : ℕ) (groups : List (List ℕ)) (g : ℕ) → g < length groups →
    not (length (get_or groups g []) == 0) ≡ true →
    list_all (λ s. nat_lt s n) (concat groups) ≡ true → get_or (get_or groups g []) 0 0 < n
below_concat n [] g less some below = absurd (omega arith)
below_concat n ([] ∷ hs) zero less some below = cc
below_concat n ((x ∷ h) ∷ hs) zero less some below = ltb-true x n (and_parts _ _ below).0
below_concat n (h ∷ hs) (suc g) less some below =
    below_concat n hs g (omega arith) some
    (and_parts _ _ (sym (list_all-append (λ s. nat_lt s n) h (concat hs)) ∙ below)).1

-- there are at most as many groups as are listed
listed_count : (n : ℕ) (listed : List (List ℕ)) (groups : List ℕ) → groups_of n (Some listed) ≡ Some groups →
    group_count groups ≤ length listed
listed_count n listed groups e = grind (arith, ints, nat_tests, group_count-le, groups_below)

-- each of the groups that are listed has a server
group_held : (n : ℕ) (listed : List (List ℕ)) (groups : List ℕ) → groups_of n (Some listed) ≡ Some groups →
    (g : ℕ) → g < length listed → Contains groups g
group_held n listed groups e g less =
    let (test, same) = given_grouping n listed groups e in
    let parts = grouping_parts n listed test in
    let filled = AllPass-from_list_all (λ group. not (length group == 0)) listed parts.filled g [] less in
    let x = get_or (get_or listed g []) 0 0 in
    let server : x < n = below_concat n listed g less filled parts.below in
    let held = first_held (get_or listed g []) filled in
    let place = place_once x 0 listed g less held (parts.once x server) in
    subst (λ gs. Contains gs g) same (
      x,
      rw (length-map-range_with_len (group_of listed) 0 n) server,
      get_or-map-range_with_len (group_of listed) 0 n x x g server (omega arith) ∙ place ∙ omega arith,
    )

-- none of the groups is empty
pub groups_of-without_gap : (n : ℕ) (listed : Option (List (List ℕ))) (groups : List ℕ) →
    groups_of n listed ≡ Some groups →
    IsWithoutGap groups
groups_of-without_gap n None groups e =
    let same : servers_of n ≡ groups = cc in
    subst IsWithoutGap same (record {
      none_empty = λ g less.
          let most = group_count-le n (servers_of n)
          (λ k d within. let small : k < n =
          rw (length-range_with_len 0 n) at within in rw (get_or-range_with_len 0 n k d small) (omega arith)) in
          let server : g < n = omega arith in
          (g, rw (length-range_with_len 0 n) server, get_or-range_with_len 0 n g g server ∙ omega arith);
    })
groups_of-without_gap n (Some listed) groups e = record {
  none_empty = λ g less. group_held n listed groups e g (omega (arith, listed_count n listed groups e));
}

-- a server's number is that of the group which holds it
pub group_number : (n : ℕ) (listed : List (List ℕ)) (groups : List ℕ) → groups_of n (Some listed) ≡ Some groups →
    (server group : ℕ) → server < n → group < length listed →
    list_any (λ s. s == server) (get_or listed group []) ≡ true → get_or groups server 0 ≡ group
group_number n listed groups e server group small here held =
    let (test, same) = given_grouping n listed groups e in
    let parts = grouping_parts n listed test in
    let place = place_once server 0 listed group here held (parts.once server small) in
    subst (λ gs. get_or gs server 0 ≡ group) same
    (get_or-map-range_with_len (group_of listed) 0 n server server 0 small (omega arith) ∙ place ∙ omega arith)

group_count-ge : (groups : List ℕ) (k d : ℕ) → k < length groups → get_or groups k d < group_count groups
group_count-ge [] k d less = absurd (omega arith)
group_count-ge (g ∷ gs) zero d less = omega arith
group_count-ge (g ∷ gs) (suc k) d less = let rest = group_count-ge gs k d (omega arith) in omega arith

-- there are as many groups as are listed
pub group_count-listed : (n : ℕ) (listed : List (List ℕ)) (groups : List ℕ) → groups_of n (Some listed) ≡ Some groups →
    group_count groups ≡ length listed
group_count-listed n listed groups e =
    let most = listed_count n listed groups e in
    let count = group_count groups in
    elim (cases_lt count (length listed)) [
      | inl less ↦
          let (x, within, is) = group_held n listed groups e count less in
          absurd (omega (arith, group_count-ge groups x count within))
      | inr least ↦ omega arith
    ]

-- ---- groups as a relation

any_contains : (x : ℕ) (ys : List ℕ) → list_any (λ s. s == x) ys ≡ true → Contains ys x
any_contains x ys e =
    let found = Any-from_list_any (λ s. s == x) ys e in
    let is : found.1 ≡ x = (Decides-eqb found.1 x).0 found.4 in
    subst (Contains ys) is (found.0, found.2, found.3)

contains_any : (x : ℕ) (ys : List ℕ) → Contains ys x → list_any (λ s. s == x) ys ≡ true
contains_any x ys (k, below, is) = list_any-from_Any (λ s. s == x) ys (k, x, below, is, (Decides-eqb x x).1 refl)

-- a number that a group holds is below n, where all are
held_below : (n x : ℕ) (ys : List ℕ) → list_any (λ s. s == x) ys ≡ true → list_all (λ s. nat_lt s n) ys ≡ true → x < n
held_below n x ys held below =
    let found = Any-from_list_any (λ s. s == x) ys held in
    let is : found.1 ≡ x = (Decides-eqb found.1 x).0 found.4 in
    let small = AllPass-from_list_all (λ s. nat_lt s n) ys below found.0 found.1 found.2 in
    let same : get_or ys found.0 found.1 ≡ x = found.3 ∙ is in
    ltb-true x n (subst (λ (y : ℕ). nat_lt y n ≡ true) same small)

group_below : (n x : ℕ) (groups : List (List ℕ)) (g : ℕ) → g < length groups →
    list_any (λ s. s == x) (get_or groups g []) ≡ true → list_all (λ s. nat_lt s n) (concat groups) ≡ true → x < n
group_below n x [] g less held below = absurd (omega arith)
group_below n x (h ∷ hs) zero less held below =
    held_below n x h held (and_parts _ _ (sym (list_all-append (λ s. nat_lt s n) h (concat hs)) ∙ below)).0
group_below n x (h ∷ hs) (suc g) less held below =
    group_below n x hs g (omega arith) held
    (and_parts _ _ (sym (list_all-append (λ s. nat_lt s n) h (concat hs)) ∙ below)).1

-- a place in a list, and what stands there
some_at : (P : List ℕ → Type 0) (groups : List (List ℕ)) (g : ℕ) → g < length groups → P (get_or groups g []) →
    IsSomeAnd (slice_get groups g) P
some_at P groups g less holds = subst (λ o. IsSomeAnd o P) (sym (slice_get-get_or groups g [] less)) holds

at_some : (P : List ℕ → Type 0) (groups : List (List ℕ)) (g : ℕ) → IsSomeAnd (slice_get groups g) P →
    (g < length groups) × P (get_or groups g [])
at_some P groups g some = at (slice_get groups g) refl some
  where
    at : (o : Option (List ℕ)) → slice_get groups g ≡ o → IsSomeAnd o P → (g < length groups) × P (get_or groups g [])
    at None e none = absurd none
    at (Some list) e holds = (
      slice_get_within groups g list e,
      subst P (sym (get_or_from_slice_get groups g list [] e)) holds,
    )

-- the number of a server's group is given exactly where it is in that group
pub in_group : (n : ℕ) (listed : Option (List (List ℕ))) (groups : List ℕ) → groups_of n listed ≡ Some groups →
    (server group : ℕ) → (slice_get groups server ≡ Some group) ↔ IsInGroup n listed server group
in_group n None groups e server group =
    let same : servers_of n ≡ groups = cc in
    subst (λ gs. (slice_get gs server ≡ Some group) ↔ ((server < n) × (group ≡ server))) same (
      λ at.
          let small : server < n =
          rw (length-range_with_len 0 n) at (slice_get_within (servers_of n) server group at) in
          let is = get_or_from_slice_get (servers_of n) server group 0 at in
          let number = get_or-range_with_len 0 n server 0 small in
          (small, sym is ∙ number ∙ omega arith),
      λ (small, is).
          let within : server < length (servers_of n) = rw (length-range_with_len 0 n) small in
          slice_get-get_or (servers_of n) server 0 within
          ∙ ap Some (get_or-range_with_len 0 n server 0 small ∙ omega (arith, is)),
    )
in_group n (Some listed) groups e server group =
    let (test, same) = given_grouping n listed groups e in
    let parts = grouping_parts n listed test in
    let sized : length groups ≡ n = ap length (sym same) ∙ length-map-range_with_len (group_of listed) 0 n in (
      λ at.
          let within = slice_get_within groups server group at in
          let small : server < n = omega arith in
          let number : get_or groups server 0 ≡ group_of listed server =
          subst (λ gs. get_or gs server 0 ≡ group_of listed server) same
          (get_or-map-range_with_len (group_of listed) 0 n server server 0 small (omega arith)) in
          let place = place_holds server 0 listed (omega (arith, parts.once server small)) in
          let is : place.0 ≡ group = omega (arith, place.1, get_or_from_slice_get groups server group 0 at, number) in
          some_at (λ servers. Contains servers server) listed group
          (subst (λ (g : ℕ). g < length listed) is place.2)
          (subst (λ (g : ℕ). Contains (get_or listed g []) server) is
          (any_contains server (get_or listed place.0 []) place.3)),
      λ some.
          let (less, holds) = at_some (λ servers. Contains servers server) listed group some in
          let held = contains_any server (get_or listed group []) holds in
          let small = group_below n server listed group less held parts.below in
          slice_get-get_or groups server 0 (omega arith)
          ∙ ap Some (group_number n listed groups e server group small less held),
    )
