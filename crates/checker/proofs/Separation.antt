-- Groups that are taken apart leave no more points admissible.
--
-- A group leaves a point out if one of its parts does, and that part's finer group leaves it out too. Finer groups
-- of different groups are different, so at least as many of them leave the point out.
use Rattle.checker.proofs.Common.{◌≡◌, ℕ, zero, suc, ◌+◌, ◌<◌, ◌≤◌, ℤ, Bool, true, false, cond, not, ◌&&◌, ◌||◌, List, [], ◌∷◌, length, Option, Some, None, Result, Ok, Err, count_by, refl, sym, ap, ◌∙◌, subst, arith, All, slice_index, ◌==◌, fold, filter, filter_map, list_any, cons_option, ints, cond-true, cond-false, and_parts, and_from, and_left, and_right, not-true, nat_tests, Any-from_list_any, sum_by-cons, sum_by-append, All-get_or, any_passes_from_place, slice_get_read, CertificateData, ClaimData, leaves_out, Interval, Sample, IsYesOr, IsContradiction, IsTakenApart, numbers_below, meet_of, narrowed, group_interval, parts_after, parts_fault, verdict_of, Part, Stretch, Yes, Why, by_test, or_rest, cond-le_one, or-false, or_assoc, ◌≤ℤ◌, rules}
use Rattle.std.specs.Prelude.{nat_lt}
use Rattle.checker.proofs.EntryStatement.{listed_parts}
use Rattle.checker.proofs.Comparison.{FaultIs, verdict_follows, all_follow, piece_follows, EveryHull, hull_follows}
use Rattle.checker.proofs.Counting.{found_below}

-- ---- counts of the numbers below n

pub count_push : (q : ℕ → Bool) (n : ℕ)
    → count_by q (numbers_below (suc n)) ≡ count_by q (numbers_below n) + cond (q n) 1 0
count_push q n = grind (arith, ints, nat_tests, sum_by-append, sum_by-cons)

-- a test that no number below n passes
none_counted : (q : ℕ → Bool) (n : ℕ) → ((k : ℕ) → k < n → q k ≡ true → ⊥) → count_by q (numbers_below n) ≡ 0
none_counted q zero none = refl
none_counted q (suc n) none =
    grind (arith, ints, nat_tests, none_counted q n (λ k below passes. none k (omega arith) passes), count_push q n)

-- one number left out of a count, at its own place or elsewhere
left_out : (passes same : Bool) (rest rest' below above : ℕ) → rest ≤ rest' + below → below ≤ above
    → (same ≡ true → below + 1 ≤ above) → (rest + cond passes 1 0) ≤ (rest' + cond (passes && not same) 1 0) + above
left_out true true rest rest' below above h more here = let step = here refl in omega arith
left_out _ _ rest rest' below above h more here = omega arith

-- with one number left out the count falls by one at most
without_one : (q : ℕ → Bool) (m n : ℕ) → count_by q (numbers_below n)
    ≤ count_by (λ k. q k && not (m == k)) (numbers_below n) + cond (nat_lt m n) 1 0
without_one q m zero = omega arith
without_one q m (suc n) =
    omega (
      arith,
      count_push q n,
      count_push (λ k. q k && not (m == k)) n,
      left_out (q n) (m == n) _
          _ (cond (nat_lt m n) 1 0) (cond (nat_lt m (suc n)) 1 0) (without_one q m n) (grind (arith, nat_tests)) (λ same.
          grind (arith, nat_tests)),
    )

-- if each number that passes q is `whole` of one that passes r, no more pass q than r
pub counted_through : (whole : ℕ → ℕ) (r : ℕ → Bool) (n : ℕ) (js : List ℕ) (q : ℕ → Bool)
    → ((k : ℕ) → k < n → q k ≡ true → list_any (λ j. r j && (whole j == k)) js ≡ true)
    → count_by q (numbers_below n) ≤ count_by r js
counted_through whole r n [] q each = grind (arith, ints, nat_tests, none_counted)
counted_through whole r n (j ∷ js) q each =
    let count = sum_by-cons (λ i. cond (r i) 1 0) j js in
    by_test (r j)
    (λ passes.
    let fewer : ℕ → Bool = λ k. q k && not (whole j == k) in
    let rest : count_by fewer (numbers_below n) ≤ count_by r js = counted_through whole r n js fewer
    (λ k below both.
    let parts = and_parts (q k) (not (whole j == k)) both in
    or_rest (r j && (whole j == k)) (list_any (λ i. r i && (whole i == k)) js) (each k below parts.0)
    (and_right (r j) (whole j == k) (not-true (whole j == k) parts.1))) in
    let step = without_one q (whole j) n in
    omega (arith, rest, step, count, cond-true {A = ℕ} (r j) 1 0 passes, cond-le_one (nat_lt (whole j) n)))
    (λ fails.
    let rest : count_by q (numbers_below n) ≤ count_by r js = counted_through whole r n js q
    (λ k below holds.
    or_rest (r j && (whole j == k)) (list_any (λ i. r i && (whole i == k)) js) (each k below holds)
    (and_left (r j) (whole j == k) fails)) in
    omega (arith, rest, count, cond-false {A = ℕ} (r j) 1 0 fails))

-- ---- what a group's interval passes, one of its parts does

-- a test on intervals that a meet passes exactly if one of the two does
abbrev pub IsOfEither : (Interval → Bool) → Type 0
IsOfEither p = (a b : Interval) → p (meet_of a b) ≡ (p a || p b)

-- there is an interval, and it passes
abbrev pub passes : (Interval → Bool) → Option Interval → Bool
passes p None = false
passes p (Some interval) = p interval

module _ (p : Interval → Bool) (either : IsOfEither p) where
  narrowed_passes : (o : Option Interval) (part : Part) → passes p (narrowed o part) ≡ (passes p o || p part.interval)
  narrowed_passes None part = refl
  narrowed_passes (Some i) part = either i part.interval

  fold_passes : (test : Part → Bool) (o : Option Interval) (parts : List Part)
      → passes p (fold narrowed o (filter test parts))
      ≡ (passes p o || list_any (λ part. test part && p part.interval) parts)
  fold_passes test o [] = sym (or-false (passes p o))
  fold_passes test o (part ∷ parts) =
      let rest : Bool = list_any (λ (other : Part). test other && p other.interval) parts in
      elim (test part) as (λ t. passes p (fold narrowed o (cond t (part ∷ filter test parts) (filter test parts)))
      ≡ (passes p o || ((t && p part.interval) || rest))) [
        | true ↦ fold_passes test (narrowed o part) parts
            ∙ ap (λ (b : Bool). b || rest) (narrowed_passes o part) ∙ or_assoc (passes p o) (p part.interval) rest
        | false ↦ fold_passes test o parts
      ]

  pub group_passes : (groups : List ℕ) (parts : List Part) (g : ℕ) → passes p (group_interval groups parts g)
      ≡ list_any (λ part. (slice_index groups part.server == g) && p part.interval) parts
  group_passes groups parts g = fold_passes (λ part. slice_index groups part.server == g) None parts

  -- as many intervals pass as groups that have one which does
  pub counted : (h : ℕ → Option Interval) (gs : List ℕ)
      → count_by p (filter_map h gs) ≡ count_by (λ g. passes p (h g)) gs
  counted h [] = refl
  counted h (g ∷ gs) =
      let rest = counted h gs in
      let count = sum_by-cons (λ k. cond (passes p (h k)) 1 0) g gs in
      let first : count_by p (cons_option (h g) (filter_map h gs))
      ≡ cond (passes p (h g)) 1 0 + count_by (λ k. passes p (h k)) gs =
      elim (h g) as (λ o. count_by p (cons_option o (filter_map h gs))
      ≡ cond (passes p o) 1 0 + count_by (λ k. passes p (h k)) gs) [
        | None ↦ omega (arith, rest)
        | Some i ↦ omega (arith, rest, sum_by-cons (λ j. cond (p j) 1 0) i (filter_map h gs))
      ] in
      omega (arith, first, count)

-- ---- groups, and the finer ones

module _ (p : Interval → Bool) (either : IsOfEither p) (groups finer : List ℕ) (apart : IsTakenApart groups finer)
    (parts : List Part) (listed : All (λ part. part.server < length groups) parts) where
  -- the interval of this finer group passes, and it is a part of this group
  finer_passes : ℕ → ℕ → Bool
  finer_passes k j = passes p (group_interval finer parts j) && (apart.whole j == k)

  -- of a group whose interval passes, so does that of a finer one
  part_passes : (k : ℕ) → passes p (group_interval groups parts k) ≡ true
      → list_any (finer_passes k) (numbers_below (length groups)) ≡ true
  unfolding finer_passes
  part_passes k holds =
      let of_group : Part → Bool = λ part. (slice_index groups part.server == k) && p part.interval in
      let found = Any-from_list_any of_group parts (sym (group_passes p either groups parts k) ∙ holds) in
      let part = found.1 in
      let j = slice_index finer part.server in
      let tests = and_parts (slice_index groups part.server == k) (p part.interval) found.4 in
      let served : part.server < length groups =
      subst (λ (x : Part). x.server < length groups) found.3
      (All-get_or (λ x. x.server < length groups) parts found.0 part found.2 listed) in
      let of_finer : Part → Bool = λ x. (slice_index finer x.server == j) && p x.interval in
      let at = slice_get_read parts (length parts) found.0 part refl found.2 (sym found.3) in
      let same : (j == j) ≡ true = grind (arith, nat_tests) in
      let finer_holds : passes p (group_interval finer parts j) ≡ true =
      group_passes p either finer parts j
      ∙ any_passes_from_place of_finer parts found.0 part at (and_from (j == j) (p part.interval) same tests.1) in
      let whole_is : (apart.whole j == k) ≡ true =
      ap (λ (g : ℕ). g == k) (apart.is_part part.server served) ∙ tests.0 in
      let count = apart.same_servers in
      let below : j < length groups =
      All-get_or (λ g. g < length groups) finer part.server 0 (omega arith) apart.in_range in
      found_below (finer_passes k) (length groups) j below
      (and_from (passes p (group_interval finer parts j)) (apart.whole j == k) finer_holds whole_is)

  -- so no fewer finer groups pass
  pub no_fewer_pass : count_by p (filter_map (group_interval groups parts) (numbers_below (length groups)))
      ≤ count_by p (filter_map (group_interval finer parts) (numbers_below (length finer)))
  unfolding finer_passes
  no_fewer_pass =
      grind (
        arith,
        counted_through apart.whole (λ j. passes p
            (group_interval finer parts j)) (length groups) (numbers_below (length groups)) (λ k. passes p (group_interval
            groups parts k)) (λ k below holds. part_passes k holds),
        counted p either (group_interval groups parts)
            (numbers_below (length groups)),
        counted p either (group_interval finer parts) (numbers_below (length groups)),
      )

-- ---- the two tests

pub held_ends : (i : Interval) (point : ℤ) → leaves_out i point ≡ false → (i.lo ≤ℤ point) × (point ≤ℤ i.hi)
held_ends i point h = (grind (arith, ints), grind (arith, ints))

pub held_test : (i : Interval) (point : ℤ) → i.lo ≤ℤ point → point ≤ℤ i.hi → leaves_out i point ≡ false
held_test i point low high = grind (arith, ints)

-- a meet leaves a point out exactly if one of the two does
pub meet_leaves_it_out : (point : ℤ) (a b : Interval)
    → leaves_out (meet_of a b) point ≡ (leaves_out a point || leaves_out b point)
meet_leaves_it_out point a b = search rules

pub all_counted : (list : List Interval) → count_by (λ i. true) list ≡ length list
all_counted [] = refl
all_counted (i ∷ list) = omega (arith, all_counted list, sum_by-cons (λ (j : Interval). cond true 1 0) i list)

-- ---- the verdict

parts_apart : (hulls : EveryHull) (claim : ClaimData) (finer : List ℕ) (parts : List Part)
    → IsTakenApart claim.groups finer → All (λ part. part.server < length claim.groups) parts
    → parts_fault claim (Ok parts) ≡ None
    → FaultIs IsContradiction (parts_fault (record claim { groups = finer }) (Ok parts))
parts_apart hulls claim finer parts apart listed e =
    let list = filter_map (group_interval claim.groups parts) (numbers_below (length claim.groups)) in
    let other = filter_map (group_interval finer parts) (numbers_below (length finer)) in
    let more = no_fewer_pass (λ i. true) (λ a b. refl) claim.groups finer apart parts listed in
    hull_follows hulls claim.bound claim.bound list other claim.false_max claim.false_max (omega (arith, ints))
    (λ point few.
    let counts = no_fewer_pass (λ i. leaves_out i point) (meet_leaves_it_out point) claim.groups finer apart parts
    listed in
    omega arith)
    (λ some. omega (arith, more, all_counted list, all_counted other))
    e

module _ (hulls : EveryHull) (samples : List Sample) (claim : ClaimData) (finer : List ℕ)
    (listed : All (λ sample. sample.server < length claim.groups) samples)
    (apart : IsTakenApart claim.groups finer) where
  says_apart : (stretch : Stretch) (entries : List (ℕ × ℕ)) (said : Result (List Part) Why)
      → parts_after samples stretch claim.drift_ppb [] entries ≡ said → parts_fault claim said ≡ None
      → FaultIs IsContradiction (parts_fault (record claim { groups = finer }) said)
  says_apart stretch entries (Err why) is e = absurd cc
  says_apart stretch entries (Ok parts) is e =
      parts_apart hulls claim finer parts apart
      (listed_parts samples stretch claim.drift_ppb (length claim.groups) entries parts listed is) e

  pub verdict_apart : (certificate : CertificateData) → verdict_of samples claim certificate ≡ Yes
      → IsYesOr IsContradiction (verdict_of samples (record claim { groups = finer }) certificate)
  verdict_apart certificate e =
      let other : ClaimData = record claim { groups = finer } in
      verdict_follows samples claim other IsContradiction refl 0 claim.first certificate.pieces certificate.pieces
      (all_follow samples claim other IsContradiction
      (λ piece. piece_follows samples claim other IsContradiction refl piece piece refl
      (λ stretch passes. says_apart stretch piece.entries _ refl passes))
      certificate.pieces)
      e
