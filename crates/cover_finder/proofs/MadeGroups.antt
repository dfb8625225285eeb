-- The groups that the case of a minimal cover names: the cover's, of which nothing is wrong.
use Rattle.std.proofs.Common.{◌≡◌, ◌≢◌, ℕ, ◌<◌, ◌≤◌, Bool, true, false, cond, not, ◌&&◌, nat_lt, List, [], ◌∷◌, ◌++◌, length, get_or, Option, Some, None, All, refl, sym, ◌∙◌, subst, arith, inl, inr, ⊎_elim, append_assoc}
use Rattle.std.specs.Prelude.{◌==◌, AllPairs, filter}
use Rattle.std.specs.List.{list_all, list_any}
use Rattle.std.proofs.lemmas.Bool.{and_from, and_parts}
use Rattle.std.proofs.lemmas.Bool.Decides.{nat_tests}
use Rattle.std.proofs.lemmas.List.{get_or_append_left, get_or_at, length-append}
use Rattle.std.proofs.lemmas.List.Elements.{All-head, All-tail, All-weaker}
use Rattle.std.proofs.lemmas.List.Folds.{Any-from_list_any, list_any_none}
use Rattle.std.proofs.lemmas.List.Sums.{AllPass-from_list_all}
use Rattle.claim_file.specs.Claim.{IsLawful}
use Rattle.pairing.specs.Exchange.{IsLawful as IsLawfulExchange}
use Rattle.lemma_base.proofs.Bool.{by_test}
use Rattle.feasibility.specs.Cover.{HoldsNoLess, IsCover}
use Rattle.feasibility.specs.Members.{LieWithin}
use Rattle.feasibility.proofs.ConflictTables.{broken_in_range, conflict_in_range}
use Rattle.finder.proofs.Liar.{named_pass, pass_named}
use Rattle.cover_checker.specs.Case.{are_alike, case_why, cases_why, first_of, groups_why, or_else}
use Rattle.cover_checker.specs.Conflict.{names}
use Rattle.cover_checker.specs.declared.verdict.CaseWhy.{CaseWhy}
use Rattle.cover_checker.specs.declared.verdict.CaseWhy.TheVariants.{NoGroup, RepeatedGroup, TooManyGroups, RepeatedCase}
use Rattle.cover_finder.specs.Common.{CaseData, ClaimData, Exchange, numbers_below}

-- ---- tests

same_tests : (a b : Bool) → (a ≡ true → b ≡ true) → (b ≡ true → a ≡ true) → a ≡ b
same_tests true true to from = refl
same_tests false false to from = refl
same_tests true false to from = sym (to refl)
same_tests false true to from = from refl

passed : (k n : ℕ) → k < n → nat_lt k n ≡ true
passed k n below = grind (arith, nat_tests)

below_from : (k n : ℕ) → nat_lt k n ≡ true → k < n
below_from k n test = grind (arith, nat_tests)

-- ---- a minimal cover has only groups with exchanges

module _ (claim : ClaimData) (xs : List Exchange) (lawful : IsLawful claim)
    (each : All (IsLawfulExchange (length claim.servers)) xs) (is_in : ℕ → Bool) (cover : IsCover claim xs is_in) where
  is_listed : ℕ → Bool
  is_listed k = is_in k && nat_lt k (length claim.groups)

  listed_cover : IsCover claim xs is_listed
  unfolding is_listed
  listed_cover = record {
    broken = λ g broken. and_from (is_in g) (nat_lt g (length claim.groups)) (cover.broken g broken)
        (passed g (length claim.groups) (broken_in_range claim xs lawful each g broken));
    one_of_two = λ a b conflict.
        let below = conflict_in_range claim xs lawful each a b conflict in
        ⊎_elim
        (λ one. inl (and_from (is_in a) (nat_lt a (length claim.groups)) one (passed a (length claim.groups) below.0)))
        (λ two. inr (and_from (is_in b) (nat_lt b (length claim.groups)) two (passed b (length claim.groups) below.1)))
        (cover.one_of_two a b conflict);
  }

  pub minimal_in_range : HoldsNoLess claim xs is_in → (g : ℕ) → is_in g ≡ true → g < length claim.groups
  unfolding is_listed
  minimal_in_range minimal g is =
      let held = minimal is_listed listed_cover
      (λ k both. (and_parts (is_in k) (nat_lt k (length claim.groups)) both).0) g is in
      below_from g (length claim.groups) (and_parts (is_in g) (nat_lt g (length claim.groups)) held).1

-- ---- the numbers of the groups of a set

module _ (p : ℕ → Bool) (n : ℕ) (below : (k : ℕ) → p k ≡ true → k < n) where
  pub just_named : (group : ℕ) → list_any (λ g. g == group) (filter p (numbers_below n)) ≡ p group
  just_named group =
      same_tests (list_any (λ g. g == group) (filter p (numbers_below n))) (p group) (named_pass p n group)
      (λ is. pass_named p n group (below group is) is)

-- ---- nothing is wrong with such groups

no_fault : (far again : Bool) (rest : Option CaseWhy) → far ≡ false → again ≡ false
    → cond far (Some NoGroup) (cond again (Some RepeatedGroup) rest) ≡ rest
no_fault true again rest near new = absurd cc
no_fault false true rest near new = absurd cc
no_fault false false rest near new = refl

near : (g n : ℕ) → g < n → not (nat_lt g n) ≡ false
near g n below = grind (arith, nat_tests)

other : (a b : ℕ) → a ≢ b → (a == b) ≡ false
other a b differ = grind (arith, nat_tests)

-- what holds of each two holds of each that stands before one, and of it
before_it : {X : Type 0} (R : X → X → Type 0) (xs ys : List X) (x : X) → AllPairs R (xs ++ x ∷ ys)
    → All (λ y. R y x) xs
before_it R xs ys x pairs k d within =
    let both = pairs k (length xs) d within (omega (arith, length-append xs (x ∷ ys))) in
    subst (λ y. R y x) (get_or_append_left xs (x ∷ ys) d k within)
    (subst (R (get_or (xs ++ x ∷ ys) k d)) (get_or_at xs x ys d (length xs) refl) both)

pub groups_fit : (n : ℕ) (earlier groups : List ℕ) → All (λ g. g < n) groups
    → AllPairs (λ a b. a ≢ b) (earlier ++ groups) → groups_why n earlier groups ≡ None
groups_fit n earlier [] below differ = refl
groups_fit n earlier (group ∷ groups) below differ =
    no_fault (not (nat_lt group n)) (list_any (λ g. g == group) earlier)
    (groups_why n (earlier ++ group ∷ []) groups)
    (near group n (All-head (λ g. g < n) group groups below))
    (list_any_none (λ g. g == group) earlier
    (All-weaker (λ g. g ≢ group) (λ g. (g == group) ≡ false) (λ g. other g group) earlier
    (before_it (λ a b. a ≢ b) earlier groups group differ)))
    ∙ groups_fit n (earlier ++ group ∷ []) groups (All-tail (λ g. g < n) group groups below)
    (subst (AllPairs (λ a b. a ≢ b)) (sym (append_assoc earlier (group ∷ []) groups)) differ)

-- ---- nothing is wrong with a case, and with cases

-- no more groups than may be false, each once and below the count of servers
pub record IsFit (claim : ClaimData) (case : CaseData) : Type 0 where
  pub few : length case.groups ≤ claim.false_max
  pub fit : groups_why (length claim.servers) [] case.groups ≡ None

none_wrong : (many again : Bool) (groups : Option CaseWhy) → many ≡ false → groups ≡ None → again ≡ false
    → cond many (Some TooManyGroups) (or_else groups (cond again (Some RepeatedCase) None)) ≡ None
none_wrong true again groups few fit new = absurd cc
none_wrong false again (Some why) few fit new = absurd cc
none_wrong false true None few fit new = absurd cc
none_wrong false false None few fit new = refl

none_of_two : (k : ℕ) (fault : Option CaseWhy) (rest : Option (ℕ × CaseWhy)) → fault ≡ None → rest ≡ None
    → first_of k fault rest ≡ None
none_of_two k None rest none others = others
none_of_two k (Some why) rest none others = absurd cc

not_many : (n m : ℕ) → n ≤ m → nat_lt m n ≡ false
not_many n m le = grind (arith, nat_tests)

-- the later one doesn't name what the earlier one does
abbrev pub AreUnlike : CaseData → CaseData → Type 0
AreUnlike one later = are_alike later one ≡ false

pub cases_fit : (claim : ClaimData) (before cases : List CaseData) → All (IsFit claim) cases
    → AllPairs AreUnlike (before ++ cases) → cases_why claim before cases ≡ None
cases_fit claim before [] fit unlike = refl
cases_fit claim before (case ∷ cases) fit unlike =
    none_of_two (length before) (case_why claim before case) (cases_why claim (before ++ case ∷ []) cases)
    (none_wrong (nat_lt claim.false_max (length case.groups)) (list_any (are_alike case) before)
    (groups_why (length claim.servers) [] case.groups)
    (not_many (length case.groups) claim.false_max
    (All-head (IsFit claim) case cases fit).few) (All-head (IsFit claim) case cases fit).fit
    (list_any_none (are_alike case) before (before_it AreUnlike before cases case unlike)))
    (cases_fit claim (before ++ case ∷ []) cases (All-tail (IsFit claim) case cases fit)
    (subst (AllPairs AreUnlike) (sym (append_assoc before (case ∷ []) cases)) unlike))

-- ---- cases that are alike

pub alike_within : (a b : CaseData) → list_all (names b) a.groups ≡ true → LieWithin (names a) (names b)
alike_within a b all k named =
    let found = Any-from_list_any (λ g. g == k) a.groups named in
    let passes = AllPass-from_list_all (names b) a.groups all found.0 found.1 found.2 in
    let is : found.1 ≡ k = (let test = found.4 in grind (arith, nat_tests)) in
    subst (λ (g : ℕ). names b g ≡ true) (found.3 ∙ is) passes

pub unlike : (a b : CaseData) → ¬ (LieWithin (names a) (names b)) → AreUnlike a b
unlike a b apart = by_test (are_alike b a)
    (λ alike. absurd (apart (alike_within a b
    (and_parts (list_all (names a) b.groups) (list_all (names b) a.groups) alike).1)))
    (λ not_alike. not_alike)
