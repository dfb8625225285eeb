-- A course that fits a capture fits what any entries name of it.
use Rattle.checker.proofs.Common.{◌≡◌, ℕ, zero, suc, ◌+◌, ◌<◌, ◌≤◌, Bool, true, false, cond, ◌&&◌, List, [], ◌∷◌, ◌++◌, length, Some, count_by, refl, sym, ap, ◌∙◌, subst, inl, inr, arith, slice_get, slice_index, ◌==◌, range_with_len, and_parts, and_from, nat_tests, Any-from_list_any, sum_by-le-sum_by, get_or_from_slice_get, slice_get-get_or, slice_get_within, ClaimData, Exchange, DriftsWithin, Course, Fits, holds_false, false_group_count, numbers_below, HasFewFalse, OfEachEntry, FitsPiece, by_test, ints}
use Rattle.checker.proofs.Counting.{fails_below, implies_le}

-- ---- numbers

one_more : (a n : ℕ) → range_with_len a (suc n) ≡ range_with_len a n ++ (a + n) ∷ []
one_more a zero = let is : a ≡ a + 0 = omega arith in ap (λ (k : ℕ). k ∷ []) is
one_more a (suc n) = grind (arith, ints, nat_tests, one_more (a + 1) n)

-- the numbers of n groups
pub all_numbers : (n : ℕ) → numbers_below n ≡ range_with_len 0 n
all_numbers zero = refl
all_numbers (suc n) =
    let is : n ≡ 0 + n = omega arith in
    ap (λ (l : List ℕ). l ++ n ∷ []) (all_numbers n) ∙ ap (λ (k : ℕ). range_with_len 0 n ++ k ∷ []) is
    ∙ sym (one_more 0 n)

-- ---- few false servers

module _ (claim : ClaimData) (xs : List Exchange) (entries : List (ℕ × ℕ)) (course : Course) where
  -- if few groups hold a server that counts, and each false server with an entry counts, few are false
  module _ (counts : ℕ → Bool) (few : false_group_count claim.groups counts ≤ claim.false_max)
      (all : OfEachEntry xs entries (λ a x b y. course.is_false x.server ≡ true → counts x.server ≡ true)) where
    group_counts : (server group : ℕ) → slice_get claim.groups server ≡ Some group → counts server ≡ true
        → holds_false claim.groups counts group ≡ true
    group_counts server group at counted =
        let is : slice_index claim.groups server ≡ group = get_or_from_slice_get claim.groups server group 0 at in
        let same : (slice_index claim.groups server == group) ≡ true = grind (arith, nat_tests) in
        let both = and_from (slice_index claim.groups server == group) (counts server) same counted in
        by_test (holds_false claim.groups counts group) (λ holds. holds)
        (λ none. absurd (
        let fails = fails_below (λ s. (slice_index claim.groups s == group) && counts s) (length claim.groups)
        server (slice_get_within claim.groups server group at) none in
        cc))

    pub few_from_count : HasFewFalse claim xs entries course
    few_from_count = record {
      is_wrong = holds_false claim.groups counts;
      few = subst (λ (l : List ℕ). count_by (holds_false claim.groups counts) l ≤ claim.false_max)
          (all_numbers (length claim.groups)) few;
      in_wrong_group = λ j a b x y named at_a at_b false' group at.
          group_counts x.server group at (all j a b x y named at_a at_b false');
    }

  -- and the other way: the groups of servers that are false and of a wrong group
  module _ (few : HasFewFalse claim xs entries course) where
    abbrev pub counts_as_false : ℕ → Bool
    counts_as_false server = course.is_false server && few.is_wrong (slice_index claim.groups server)

    is_wrong_group : (group : ℕ) → holds_false claim.groups counts_as_false group ≡ true → few.is_wrong group ≡ true
    is_wrong_group group holds =
        let found = Any-from_list_any (λ s. (slice_index claim.groups s == group) && counts_as_false s)
        (numbers_below (length claim.groups)) holds in
        let server = found.1 in
        let tests = and_parts (slice_index claim.groups server == group) (counts_as_false server) found.4 in
        let both = and_parts (course.is_false server) (few.is_wrong (slice_index claim.groups server)) tests.1 in
        let same = tests.0 in
        let is : slice_index claim.groups server ≡ group = grind (arith, nat_tests) in
        subst (λ (g : ℕ). few.is_wrong g ≡ true) is both.1

    pub count_from_few : false_group_count claim.groups counts_as_false ≤ claim.false_max
    count_from_few =
        omega (
          arith,
          sum_by-le-sum_by (λ g. cond (holds_false claim.groups counts_as_false g) 1 0) (λ g. cond
              (few.is_wrong g) 1 0) (numbers_below (length claim.groups)) (λ g. implies_le _ _ (is_wrong_group g)),
          subst (λ
              (l : List ℕ). count_by few.is_wrong l ≤ claim.false_max) (sym (all_numbers (length claim.groups))) few.few,
        )

    -- a server of an entry that doesn't count as false isn't false
    pub true_if_uncounted : (j a b : ℕ) (x y : Exchange) → slice_get entries j ≡ Some (a, b)
        → slice_get xs a ≡ Some x → slice_get xs b ≡ Some y → x.server < length claim.groups
        → counts_as_false x.server ≡ false → course.is_false x.server ≡ false
    true_if_uncounted j a b x y named at_a at_b listed uncounted = by_test (course.is_false x.server)
        (λ is. absurd (
        let wrong = few.in_wrong_group j a b x y named at_a at_b is (slice_index claim.groups x.server)
        (slice_get-get_or claim.groups x.server 0 listed) in
        let counted = and_from (course.is_false x.server) (few.is_wrong (slice_index claim.groups x.server)) is wrong in
        cc))
        (λ not'. not')

-- ---- the whole capture

pub fits_piece : (claim : ClaimData) (xs : List Exchange) (entries : List (ℕ × ℕ)) (course : Course)
    → Fits claim xs course → FitsPiece claim xs entries course
fits_piece claim xs entries course fits =
    let drifts_from : (k : ℕ) (x : Exchange) → slice_get xs k ≡ Some x
    → DriftsWithin claim.drift_ppb (course.request k) course.observation
    × DriftsWithin claim.drift_ppb (course.reply k) course.observation =
    λ k x at. (
      fits.drift (course.request k) course.observation (inr (k, slice_get_within xs k x at, inl refl)) (inl refl),
      fits.drift (course.reply k) course.observation (inr (k, slice_get_within xs k x at, inr refl)) (inl refl),
    ) in
    record {
      some_fineness = fits.some_fineness;
      few_false = few_from_count claim xs entries course course.is_false fits.few_false
          (λ j a b x y named at_a at_b false'. false');
      leaves_after_stamp = λ j a b x y named at_a at_b. fits.leaves_after_stamp a x at_a;
      arrives_before_stamp = λ j a b x y named at_a at_b. fits.arrives_before_stamp b y at_b;
      drift = λ j a b x y named at_a at_b. ((drifts_from a x at_a).0, (drifts_from b y at_b).1);
      ordered = λ j a b x y named at_a at_b true_x true_y.
          ((fits.ordered a x at_a true_x).0, (fits.ordered b y at_b true_y).2);
      within_root_distance = λ j a b x y named at_a at_b true_x true_y.
          ((fits.within_root_distance a x at_a true_x).0, (fits.within_root_distance b y at_b true_y).1);
    }
