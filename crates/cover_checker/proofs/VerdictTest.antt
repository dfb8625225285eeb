-- What a verdict says, the tests say.
use mathlib.Core.Path.{fun_ext}
use Rattle.std.proofs.Common.{◌+◌}
use Rattle.std.proofs.lemmas.List.Elements.{All-cons, All-head, All-tail}
use Rattle.std.specs.Prelude.{nat_le}
use Rattle.checker.proofs.Separation.{count_push}
use Rattle.feasibility.proofs.DriftTest.{compatible_from, compatible_to, possible_from, possible_to}
use Rattle.feasibility.specs.DriftTest.{are_compatible, is_possible}
use Rattle.std.specs.List.{list_all}
use Rattle.cover_checker.proofs.Common.{◌≡◌, ℕ, zero, suc, ◌<◌, ◌≤◌, inl, inr, ⊎_elim, Bool, true, false, cond, not, ◌&&◌, ◌||◌, ◌==◌, nat_lt, List, [], ◌∷◌, length, Option, None, Some, count_by, refl, sym, ap, ◌∙◌, arith, nat_tests, All, All-nil, All-slice_get, and_from, and_parts, by_test, cond-false, cond-true, slice_get, list_any, AreAnswered, CaseData, CaseHolds, ClaimData, CoverCertificateData, Exchange, HoldsCase, HoldsEnd, IsConflict, IsLawful, IsLawfulExchange, LieWithin, group_of, high_mark, low_mark, numbers_below, size_of}
use Rattle.cover_checker.specs.Case.{cases_why}
use Rattle.cover_checker.specs.Conflict.{IsUnanswered}
use Rattle.cover_checker.specs.Verdict.{IsFirstNoConflict, IsVerdict, case_faults}
use Rattle.cover_checker.specs.VerdictTest.{are_apart, are_unanswered, has_end, no_conflict_from, said_of_case, said_of_cases, said_of_conflict, said_of_piece}
unfoldable use Rattle.cover_checker.specs.VerdictTest.{some_set, verdict_of}
use Rattle.cover_checker.specs.declared.verdict.CoverVerdict.{CoverVerdict}
use Rattle.cover_checker.specs.declared.verdict.CoverVerdict.TheVariants.{Yes, NoConflict, NoCase, BadCase, Unanswered, BadPiece}
use Rattle.cover_checker.proofs.Acceptance.{Laws, none_fails}

-- ---- one pair

apart_parts : (meet same possible : Bool) → (not meet || (same && not possible)) ≡ true → meet ≡ true
    → (same ≡ true) × (possible ≡ false)
apart_parts true true true e m = absurd cc
apart_parts true true false e m = (refl, refl)
apart_parts true false possible e m = absurd cc
apart_parts false same possible e m = absurd cc

alone_apart : (meet same possible : Bool) → same ≡ true → possible ≡ false
    → (not meet || (same && not possible)) ≡ true
alone_apart true true true s p = absurd cc
alone_apart true true false s p = refl
alone_apart true false possible s p = absurd cc
alone_apart false same possible s p = refl

module _ (claim : ClaimData) (xs : List Exchange) (pair : ℕ × ℕ) where
  abbrev meet : Exchange → Exchange → Bool
  meet x y = are_compatible claim.drift_ppb (low_mark claim.reading x) (high_mark claim.reading y)

  found_conflict : (low high : Option Exchange) → slice_get xs pair.0 ≡ low → slice_get xs pair.1 ≡ high
      → are_apart claim pair low high ≡ true → IsConflict claim xs pair
  found_conflict None high at_low at_high e = absurd cc
  found_conflict (Some x) None at_low at_high e = absurd cc
  found_conflict (Some x) (Some y) at_low at_high e = record {
    low = x;
    high = y;
    low_stands = at_low;
    high_stands = at_high;
    impossible = by_test (meet x y)
        (λ meets.
        let parts = apart_parts (meet x y) (pair.0 == pair.1) (is_possible claim.reading x) e meets in
        let same : pair.0 ≡ pair.1 = (let test = parts.0 in grind (arith, nat_tests)) in
        inr (same, λ possible. let is = possible_to claim.reading x possible in let isnt = parts.1 in absurd cc))
        (λ apart. inl (λ compatible.
        let is = compatible_to claim.drift_ppb (low_mark claim.reading x) (high_mark claim.reading y) compatible in
        absurd cc));
  }

  apart_if : (x y : Exchange) → IsConflict claim xs pair → slice_get xs pair.0 ≡ Some x → slice_get xs pair.1 ≡ Some y
      → (not (meet x y) || ((pair.0 == pair.1) && not (is_possible claim.reading x))) ≡ true
  apart_if x y conflict at_low at_high =
      let same_x : conflict.low ≡ x = let e = sym conflict.low_stands ∙ at_low in cc in
      let same_y : conflict.high ≡ y = let e = sym conflict.high_stands ∙ at_high in cc in
      ⊎_elim
      (λ apart. by_test (meet x y)
      (λ meets. absurd (apart
      (compatible_from claim.drift_ppb (low_mark claim.reading conflict.low) (high_mark claim.reading conflict.high)
      (ap (λ (e : Exchange). meet e conflict.high) same_x ∙ ap (meet x) same_y ∙ meets))))
      (λ none. ap (λ b. not b || ((pair.0 == pair.1) && not (is_possible claim.reading x))) none))
      (λ alone. alone_apart (meet x y) (pair.0 == pair.1) (is_possible claim.reading x)
      (let same = alone.0 in grind (arith, nat_tests))
      (by_test (is_possible claim.reading x)
      (λ possible. absurd (alone.1 (possible_from claim.reading conflict.low
      (ap (is_possible claim.reading) same_x ∙ possible))))
      (λ none. none)))
      conflict.impossible

  apart_from : IsConflict claim xs pair → are_apart claim pair (slice_get xs pair.0) (slice_get xs pair.1) ≡ true
  apart_from conflict =
      ap (λ o. are_apart claim pair o (slice_get xs pair.1)) conflict.low_stands
      ∙ ap (are_apart claim pair (Some conflict.low)) conflict.high_stands
      ∙ apart_if conflict.low conflict.high conflict conflict.low_stands conflict.high_stands

-- ---- all pairs

module _ (claim : ClaimData) (xs : List Exchange) where
  abbrev tested : ℕ × ℕ → Bool
  tested pair = are_apart claim pair (slice_get xs pair.0) (slice_get xs pair.1)

  passes_if : (pair : ℕ × ℕ) → (IsConflict claim xs pair → ⊥) → tested pair ≡ false
  passes_if pair none = by_test (tested pair)
      (λ apart. absurd (none (found_conflict claim xs pair _ _ refl refl apart))) (λ is. is)

  none_found : (k : ℕ) (pairs : List (ℕ × ℕ)) → All (IsConflict claim xs) pairs
      → no_conflict_from claim xs k pairs ≡ None
  none_found k [] all = refl
  none_found k (pair ∷ pairs) all =
      cond-true (tested pair) (no_conflict_from claim xs (k + 1) pairs) (Some k)
      (apart_from claim xs pair (All-head (IsConflict claim xs) pair pairs all))
      ∙ none_found (k + 1) pairs (All-tail (IsConflict claim xs) pair pairs all)

  first_found : (m : ℕ) (pairs : List (ℕ × ℕ)) (k : ℕ) → IsFirstNoConflict claim xs pairs k
      → no_conflict_from claim xs m pairs ≡ Some (m + k)
  first_found m [] k is = absurd (let within = is.within in omega arith)
  first_found m (pair ∷ pairs) zero is =
      cond-false (tested pair) (no_conflict_from claim xs (m + 1) pairs) (Some m)
      (passes_if pair (is.fails (0, 0)))
      ∙ ap Some (omega arith)
  first_found m (pair ∷ pairs) (suc k) is =
      cond-true (tested pair) (no_conflict_from claim xs (m + 1) pairs) (Some m)
      (apart_from claim xs pair (is.earlier 0 (0, 0) (omega arith) (omega arith)))
      ∙ first_found (m + 1) pairs k (record {
        within = (let within = is.within in omega arith);
        earlier = λ j d from below. is.earlier (suc j) d (omega arith) (omega arith);
        fails = λ d. is.fails d;
      })
      ∙ ap Some (omega arith)

-- ---- sets of groups

set_found : (n : ℕ) (test : (ℕ → Bool) → Bool) → some_set n test ≡ true → (set : ℕ → Bool) × (test set ≡ true)
unfolding some_set
set_found zero test e = (λ k. false, e)
set_found (suc n) test e = by_test (some_set n test)
    (λ here. set_found n test here)
    (λ none.
    let there : some_set n (λ set. test (λ k. (k == n) || set k)) ≡ true =
    sym (ap (λ b. b || some_set n (λ set. test (λ k. (k == n) || set k))) none) ∙ e in
    let found = set_found n (λ set. test (λ k. (k == n) || set k)) there in
    (λ k. (k == n) || found.0 k, found.1))

either_passes : (a b : Bool) → b ≡ true → (a || b) ≡ true
either_passes true b e = refl
either_passes false b e = e

with_and_without : (n : ℕ) (set : ℕ → Bool) → set n ≡ true → (k : ℕ) → set k ≡ ((k == n) || (not (k == n) && set k))
with_and_without n set is k = by_test (k == n)
    (λ same.
    let here : k ≡ n = grind (arith, nat_tests) in
    ap set here ∙ is ∙ sym (ap (λ b. b || (not b && set k)) same))
    (λ other. sym (ap (λ b. b || (not b && set k)) other))

some_if : (n : ℕ) (test : (ℕ → Bool) → Bool) (set : ℕ → Bool) → ((k : ℕ) → n ≤ k → set k ≡ false)
    → test set ≡ true → some_set n test ≡ true
unfolding some_set
some_if zero test set none e = sym (ap test (fun_ext (λ k. none k (omega arith)))) ∙ e
some_if (suc n) test set none e = by_test (set n)
    (λ is.
    let rest : ℕ → Bool = λ k. not (k == n) && set k in
    either_passes (some_set n test) (some_set n (λ it. test (λ k. (k == n) || it k)))
    (some_if n (λ it. test (λ k. (k == n) || it k)) rest
    (λ k from. by_test (k == n)
    (λ same. ap (λ b. not b && set k) same)
    (λ other.
    let above : suc n ≤ k = grind (arith, nat_tests) in
    ap (λ b. not b && set k) other ∙ none k above))
    (sym (ap test (fun_ext (with_and_without n set is))) ∙ e)))
    (λ isnt. ap (λ b. b || some_set n (λ it. test (λ k. (k == n) || it k)))
    (some_if n test set
    (λ k from. by_test (k == n)
    (λ same. let here : k ≡ n = grind (arith, nat_tests) in ap set here ∙ isnt)
    (λ other. none k (grind (arith, nat_tests)))) e))

-- ---- ends and cases

module _ (claim : ClaimData) (xs : List Exchange) (is_in : ℕ → Bool) where
  abbrev end_test : ℕ × ℕ → Bool
  end_test pair = has_end claim is_in (slice_get xs pair.0) (slice_get xs pair.1)

  end_from : (pair : ℕ × ℕ) → end_test pair ≡ true → HoldsEnd claim xs is_in pair
  end_from pair e x y at_x at_y =
      sym (ap (λ o. has_end claim is_in o (slice_get xs pair.1)) at_x ∙ ap (has_end claim is_in (Some x)) at_y) ∙ e

  ends_from : (pairs : List (ℕ × ℕ)) → list_all end_test pairs ≡ true → All (HoldsEnd claim xs is_in) pairs
  ends_from [] e = All-nil (HoldsEnd claim xs is_in)
  ends_from (pair ∷ pairs) e =
      let parts = and_parts (end_test pair) (list_all end_test pairs) e in
      All-cons (HoldsEnd claim xs is_in) pair pairs (end_from pair parts.0) (ends_from pairs parts.1)

lies_within : (groups : List ℕ) (is_in : ℕ → Bool) → list_all is_in groups ≡ true
    → (k : ℕ) → list_any (λ g. g == k) groups ≡ true → is_in k ≡ true
lies_within [] is_in e k named = absurd cc
lies_within (group ∷ groups) is_in e k named =
    let parts = and_parts (is_in group) (list_all is_in groups) e in
    by_test (group == k)
    (λ same. let here : group ≡ k = grind (arith, nat_tests) in ap is_in (sym here) ∙ parts.0)
    (λ other. lies_within groups is_in parts.1 k (sym (ap (λ b. b || list_any (λ g. g == k) groups) other) ∙ named))

all_in : (groups : List ℕ) (is_in : ℕ → Bool)
    → ((k : ℕ) → list_any (λ g. g == k) groups ≡ true → is_in k ≡ true) → list_all is_in groups ≡ true
all_in [] is_in within = refl
all_in (group ∷ groups) is_in within =
    and_from (is_in group) (list_all is_in groups)
    (within group (ap (λ b. b || list_any (λ g. g == group) groups)
    (let same : (group == group) ≡ true = grind (arith, nat_tests) in same)))
    (all_in groups is_in (λ k named. within k (either_passes (group == k) (list_any (λ g. g == k) groups) named)))

holds_case : (cases : List CaseData) (is_in : ℕ → Bool)
    → list_any (λ case. list_all is_in case.groups) cases ≡ true → HoldsCase cases is_in
holds_case [] is_in e = absurd cc
holds_case (case ∷ cases) is_in e = by_test (list_all is_in case.groups)
    (λ here. inl (lies_within case.groups is_in here))
    (λ none. inr (holds_case cases is_in
    (sym (ap (λ b. b || list_any (λ c. list_all is_in c.groups) cases) none) ∙ e)))

case_test : (cases : List CaseData) (is_in : ℕ → Bool) → HoldsCase cases is_in
    → list_any (λ case. list_all is_in case.groups) cases ≡ true
case_test [] is_in held = absurd held
case_test (case ∷ cases) is_in (inl here) =
    ap (λ b. b || list_any (λ c. list_all is_in c.groups) cases) (all_in case.groups is_in here)
case_test (case ∷ cases) is_in (inr later) =
    either_passes (list_all is_in case.groups) (list_any (λ c. list_all is_in c.groups) cases)
    (case_test cases is_in later)

fewer_held : (cases : List CaseData) (a b : ℕ → Bool) → LieWithin a b → HoldsCase cases a → HoldsCase cases b
fewer_held [] a b within held = absurd held
fewer_held (case ∷ cases) a b within (inl here) = inl (λ k is. within k (here k is))
fewer_held (case ∷ cases) a b within (inr later) = inr (fewer_held cases a b within later)

-- ---- the sets that no case answers

below_counted : (is_in : ℕ → Bool) (n m : ℕ) → n ≤ m
    → count_by (λ k. nat_lt k m && is_in k) (numbers_below n) ≡ count_by is_in (numbers_below n)
below_counted is_in zero m few = refl
below_counted is_in (suc n) m few =
    grind (
      arith,
      nat_tests,
      below_counted is_in n m (omega arith),
      count_push is_in n,
      count_push (λ k. nat_lt k m && is_in k) n,
    )

module _ (claim : ClaimData) (xs : List Exchange) (certificate : CoverCertificateData) where
  abbrev groups : ℕ
  groups = length claim.groups

  found_unanswered : (is_in : ℕ → Bool) → are_unanswered claim xs certificate is_in ≡ true
      → IsUnanswered claim xs certificate is_in
  found_unanswered is_in e =
      let parts = and_parts (nat_le (size_of claim is_in) claim.false_max) _ e in
      let rest = and_parts (list_all (end_test claim xs is_in) certificate.conflicts)
      (not (list_any (λ case. list_all is_in case.groups) certificate.cases)) parts.1 in
      record {
        few = (let test = parts.0 in grind (arith, nat_tests));
        ends = ends_from claim xs is_in certificate.conflicts rest.0;
        no_case = λ held.
            let is = case_test certificate.cases is_in held in
            let none : not true ≡ true = sym (ap not is) ∙ rest.1 in
            absurd cc;
      }

  no_set : AreAnswered claim xs certificate → some_set groups (are_unanswered claim xs certificate) ≡ false
  no_set answered = by_test (some_set groups (are_unanswered claim xs certificate))
      (λ some.
      let found = set_found groups (are_unanswered claim xs certificate) some in
      let is = found_unanswered found.0 found.1 in
      absurd (is.no_case (answered found.0 is.few is.ends)))
      (λ none. none)

  module _ (lawful : IsLawful claim) (each : All (IsLawfulExchange (length claim.servers)) xs) where
    group_below : (k : ℕ) (x : Exchange) → slice_get xs k ≡ Some x → group_of claim x < groups
    group_below k x at =
        let server = (All-slice_get (IsLawfulExchange (length claim.servers)) xs k x each at).listed in
        let one_each = lawful.group_for_each in
        let below = lawful.groups_in_range x.server 0 (omega arith) in
        omega (arith, below)

    module _ (is_in : ℕ → Bool) (is : IsUnanswered claim xs certificate is_in) where
      abbrev inside : ℕ → Bool
      inside k = nat_lt k groups && is_in k

      inside_is : (k : ℕ) → k < groups → inside k ≡ is_in k
      inside_is k below = grind (arith, nat_tests)

      end_kept : (pair : ℕ × ℕ) (low high : Option Exchange) → slice_get xs pair.0 ≡ low → slice_get xs pair.1 ≡ high
          → HoldsEnd claim xs is_in pair → has_end claim inside low high ≡ true
      end_kept pair None high at_low at_high holds = refl
      end_kept pair (Some x) None at_low at_high holds = refl
      end_kept pair (Some x) (Some y) at_low at_high holds =
          ap (λ b. b || inside (group_of claim y)) (inside_is (group_of claim x) (group_below pair.0 x at_low))
          ∙ ap (λ b. is_in (group_of claim x) || b) (inside_is (group_of claim y) (group_below pair.1 y at_high))
          ∙ holds x y at_low at_high

      ends_kept : (pairs : List (ℕ × ℕ)) → All (HoldsEnd claim xs is_in) pairs
          → list_all (end_test claim xs inside) pairs ≡ true
      ends_kept [] all = refl
      ends_kept (pair ∷ pairs) all =
          and_from (end_test claim xs inside pair) (list_all (end_test claim xs inside) pairs)
          (end_kept pair _ _ refl refl (All-head (HoldsEnd claim xs is_in) pair pairs all))
          (ends_kept pairs (All-tail (HoldsEnd claim xs is_in) pair pairs all))

      no_case_test : list_any (λ case. list_all inside case.groups) certificate.cases ≡ false
      no_case_test = by_test (list_any (λ case. list_all inside case.groups) certificate.cases)
          (λ some. absurd (is.no_case (fewer_held certificate.cases inside is_in
          (λ k e. (and_parts (nat_lt k groups) (is_in k) e).1) (holds_case certificate.cases inside some))))
          (λ none. none)

      some_unanswered : some_set groups (are_unanswered claim xs certificate) ≡ true
      some_unanswered =
          some_if groups (are_unanswered claim xs certificate) inside
          (λ k from. grind (arith, nat_tests))
          (and_from (nat_le (size_of claim inside) claim.false_max) _
          (let few = is.few in let same = below_counted is_in groups groups (omega arith) in grind (arith, nat_tests))
          (and_from (list_all (end_test claim xs inside) certificate.conflicts) _
          (ends_kept certificate.conflicts is.ends) (ap not no_case_test)))

    -- ---- the verdict

    abbrev test : Bool
    test = some_set groups (are_unanswered claim xs certificate)

    all_conflicts : (v : CoverVerdict) → All (IsConflict claim xs) certificate.conflicts
        → said_of_cases claim xs certificate certificate.cases ≡ v → v ≡ verdict_of claim xs certificate
    unfolding verdict_of
    all_conflicts v all is = sym
        (ap (λ o. said_of_conflict o (said_of_cases claim xs certificate certificate.cases))
        (none_found claim xs 0 certificate.conflicts all) ∙ is)

    some_cases : (cases : List CaseData) → 0 < length cases → said_of_cases claim xs certificate cases
        ≡ said_of_case (cases_why claim [] cases)
        (cond test Unanswered (said_of_piece (case_faults claim xs 0 cases)))
    some_cases [] some = absurd (omega arith)
    some_cases (case ∷ cases) some = refl

    module _ (laws : Laws) where
      pub is_that : (v : CoverVerdict) → IsVerdict claim xs certificate v → v ≡ verdict_of claim xs certificate
      unfolding verdict_of
      is_that Yes is = all_conflicts Yes is.conflicts
          (some_cases certificate.cases is.some_case
          ∙ ap (λ o. said_of_case o (cond test Unanswered (said_of_piece (case_faults claim xs 0 certificate.cases))))
          is.fit
          ∙ ap (λ b. cond b Unanswered (said_of_piece (case_faults claim xs 0 certificate.cases))) (no_set is.answered)
          ∙ ap said_of_piece (none_fails laws claim xs 0 certificate.cases
          (λ c case at. All-slice_get (CaseHolds claim xs) certificate.cases c case is.each at)))
      is_that (NoConflict k) is =
          sym (ap (λ o. said_of_conflict o (said_of_cases claim xs certificate certificate.cases))
          (first_found claim xs 0 certificate.conflicts k is ∙ ap Some (omega arith)))
      is_that NoCase is = all_conflicts NoCase is.0 (ap (said_of_cases claim xs certificate) is.1)
      is_that (BadCase k why) is = all_conflicts (BadCase k why) is.0
          (bad_case certificate.cases is.1)
        where
          bad_case : (cases : List CaseData) → cases_why claim [] cases ≡ Some (k, why)
              → said_of_cases claim xs certificate cases ≡ BadCase k why
          bad_case [] e = absurd cc
          bad_case (case ∷ cases) e =
              ap (λ o. said_of_case o (cond test Unanswered (said_of_piece (case_faults claim xs 0 (case ∷ cases))))) e
      is_that Unanswered is = all_conflicts Unanswered is.0
          (some_cases certificate.cases is.1
          ∙ ap (λ o. said_of_case o (cond test Unanswered (said_of_piece (case_faults claim xs 0 certificate.cases))))
          is.2
          ∙ ap (λ b. cond b Unanswered (said_of_piece (case_faults claim xs 0 certificate.cases)))
          (some_unanswered is.3.0 is.3.1))
      is_that (BadPiece k piece why) is = all_conflicts (BadPiece k piece why) is.0
          (some_cases certificate.cases is.1
          ∙ ap (λ o. said_of_case o (cond test Unanswered (said_of_piece (case_faults claim xs 0 certificate.cases))))
          is.2
          ∙ ap (λ b. cond b Unanswered (said_of_piece (case_faults claim xs 0 certificate.cases))) (no_set is.3)
          ∙ ap said_of_piece is.4)
