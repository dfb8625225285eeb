-- Where nothing beyond the bound is let be, no course is beyond it.
use Rattle.std.proofs.Common.{◌==◌}
use Rattle.std.proofs.lemmas.List.Folds.{Any-from_list_any}
use Rattle.std.specs.Prelude.{nat_lt}
use Rattle.finder.proofs.Common.{◌≡◌, ℕ, suc, ◌+◌, ◌-◌, ◌<◌, ◌≤◌, ℤ, pos, neg_ℤ, ◌+ℤ◌, ◌-ℤ◌, ◌*ℤ◌, ◌≤ℤ◌, ◌<ℤ◌, Bool, true, false, not, ◌&&◌, ◌||◌, inl, inr, ◌⊎◌, ⊎_elim, Option, None, Some, List, [], ◌∷◌, length, get_or, refl, sym, ap, ◌∙◌, subst, arith, ◌↔◌, All, Any, IfNone, count_by, slice_index, AllPairs, int_min, list_any, clamps, ints, and_parts, lt-ltb, or_cases, nat_tests, All-cons, All-head, All-nil, All-tail, slice_get_within, RefutationData, ClaimData, IsLawful, max_bound, Exchange, low_mark, high_mark, Course, holds_false, are_different, IsCover, size_of, AreApart, HoldsOne, HoldsOneOr64, holds, numbers_below, AreHeld, AreLeeways, DoLet, HasFalse, HoldsFor, IsBounded, IsCandidate, IsHeldAtAll, IsMade, IsNarrowed, IsOff, IsRounded, greatest_of, leeway_in, mark_at, no_limit, turned, IsErrorOf64Bits, Side, Above, Below, by_test, not-true, ≤ℤ-from_equal, or_from, and_from, or-false}
use Rattle.finder.proofs.Group.{any_at}
use Rattle.pairing.specs.Exchange.{IsLawful as IsLawfulExchange}
use Rattle.checker.specs.Course.{Fits}
use Rattle.feasibility.specs.Conflicts.{ConflictData, group_count, HoldsNoLess as HoldsNoLessBy, IsCover as IsCoverBy}
use Rattle.feasibility.specs.DriftRefutation.{IsRefutedWithDrift}
use Rattle.feasibility.specs.LeastCovers.{AreLeastCovers}
use Rattle.feasibility.specs.Members.{LieWithin, passing}
use Rattle.feasibility.specs.declared.groups.Groups.{Groups}
use Rattle.feasibility.proofs.Converse.{keeps_low, keeps_high}
use Rattle.feasibility.proofs.CoverCounts.{passing_one, passing_same}
use Rattle.feasibility.proofs.CoverList.{passing_both, passing_within}
use Rattle.feasibility.proofs.CoverWithin.{passing_below}
use Rattle.feasibility.proofs.Covers.{listed_in_groups, server_is_true}
use Rattle.feasibility.proofs.KeptMarks.{kept_are_compatible}
use Rattle.feasibility.proofs.Scaling.{times-sub}
use Rattle.finder.proofs.Claim.{few_groups}
use Rattle.finder.proofs.GroupLeeway.{added_last, turned_test}

pub if_none : {A : Type 0} (o : Option A) (P : Type 0) → P → IfNone o P
if_none None P p = p
if_none (Some a) P p = tt

-- ---- what a course lets be

-- a moment at which the clock is off by so many ticks or more keeps such a mark
off_above : (n : ℕ) (reading ticks place time : ℤ) → place ≡ reading *ℤ pos n → (ticks *ℤ pos n) ≤ℤ (place -ℤ time)
    → time ≤ℤ ((reading -ℤ ticks) *ℤ pos n)
off_above n reading ticks place time shows off = omega (arith, ints, times-sub (reading -ℤ ticks) reading ticks n refl)

off_below : (n : ℕ) (reading ticks place time : ℤ) → place ≡ reading *ℤ pos n → (place -ℤ time) ≤ℤ (ticks *ℤ pos n)
    → ((reading -ℤ ticks) *ℤ pos n) ≤ℤ time
off_below n reading ticks place time shows off = omega (arith, ints, times-sub (reading -ℤ ticks) reading ticks n refl)

module _ (claim : ClaimData) (lawful : IsLawful claim) (xs : List Exchange)
    (each : All (IsLawfulExchange (length claim.servers)) xs) (course : Course) (fits : Fits claim xs course) where
  -- which groups hold a false server
  abbrev pub false_in : ℕ → Bool
  false_in = holds_false claim.groups course.is_false

  -- the exchanges of another group let the clock be off by what it is off by
  pub lets_be : (side : Side) (reading ticks : ℤ)
      → course.observation.reading ≡ (reading *ℤ pos course.fineness) → IsOff side ticks course → (group : ℕ)
      → false_in group ≡ false → DoLet claim xs (length xs) side reading group ticks
  lets_be Above reading ticks shows off group outside k x below at in_group =
      let is_true = server_is_true claim lawful.drift_in_range xs (listed_in_groups claim xs lawful each) course fits k
      x at (subst (λ (g : ℕ). false_in g ≡ false) (sym in_group) outside) in
      kept_are_compatible claim.drift_ppb course.fineness (mark_at reading ticks) (high_mark claim.reading x)
      course.observation (course.reply k) fits.some_fineness lawful.drift_in_range
      (fits.drift course.observation (course.reply k) (inl refl) (inr (k, slice_get_within xs k x at, inr refl))) (
        ≤ℤ-from_equal _ _ (sym shows),
        off_above course.fineness reading ticks course.observation.reading course.observation.time shows off,
      )
      (keeps_high claim xs course k x at fits is_true)
  lets_be Below reading ticks shows off group outside k x below at in_group =
      let is_true = server_is_true claim lawful.drift_in_range xs (listed_in_groups claim xs lawful each) course fits k
      x at (subst (λ (g : ℕ). false_in g ≡ false) (sym in_group) outside) in
      kept_are_compatible claim.drift_ppb course.fineness (low_mark claim.reading x) (mark_at reading (neg_ℤ ticks))
      (course.request k) course.observation fits.some_fineness lawful.drift_in_range
      (fits.drift (course.request k) course.observation (inr (k, slice_get_within xs k x at, inl refl)) (inl refl))
      (keeps_low claim xs course k x at fits is_true) (
        ≤ℤ-from_equal _ _ shows,
        off_below course.fineness reading (neg_ℤ ticks) course.observation.reading course.observation.time shows off,
      )

  -- such a group has a server, and so a number that is below theirs
  in_range : (group : ℕ) → false_in group ≡ true → group < length claim.groups
  in_range group is =
      let found = any_at (λ server. (slice_index claim.groups server == group) && course.is_false server)
      (length claim.groups) is in
      let below = lawful.groups_in_range found.0 0 found.1 in
      let test = (and_parts (slice_index claim.groups found.0 == group) (course.is_false found.0) found.2).0 in
      let here : slice_index claim.groups found.0 ≡ group = grind (arith, nat_tests) in
      subst (λ (g : ℕ). g < length claim.groups) here (omega arith)

  pub few_false : passing false_in ≤ claim.false_max
  few_false =
      omega (
        arith,
        passing_below false_in (length claim.groups) (few_groups claim lawful),
        passing_within false_in
            (λ k. false_in k && nat_lt k (length claim.groups))
            (λ k is. and_from (false_in k) _ is (lt-ltb k (length claim.groups) (in_range k is))),
      )

-- ---- 64 bits

-- an error of 64 bits isn't beyond the greatest, which a bound isn't either
bits_of : (side : Side) (ticks : ℤ) → pos 0 ≤ℤ ticks → ticks ≤ℤ greatest_of side → IsErrorOf64Bits (turned side ticks)
bits_of Above ticks low high = record { not_below = omega (arith, ints); not_above = omega (arith, ints) }
bits_of Below ticks low high = record { not_below = omega (arith, ints); not_above = omega (arith, ints) }

at_greatest : (side : Side) (ticks : ℤ) → IsErrorOf64Bits (turned side ticks) → ticks ≤ℤ greatest_of side
at_greatest Above ticks bits = omega (arith, ints)
at_greatest Below ticks bits = omega (arith, ints)

greatest_between : (side : Side) → (pos max_bound <ℤ greatest_of side) × (greatest_of side <ℤ no_limit)
greatest_between Above = (omega (arith, ints), omega (arith, ints))
greatest_between Below = (omega (arith, ints), omega (arith, ints))

-- ---- counts

pub counts_here : (cover : ℕ → Bool) → passing cover ≡ count_by cover (numbers_below 32)
unfolding passing
counts_here cover = refl

-- groups that are added once to a set without them
counts_added : (cover : ℕ → Bool) (added : List ℕ) → are_different added ≡ true → All (λ a. cover a ≡ false) added
    → All (λ a. a < 32) added
    → passing (λ k. cover k || list_any (λ a. a == k) added) ≡ passing cover + length added
counts_added cover [] once others below =
    omega (arith, (passing_same (λ k. cover k || false) cover (λ k. or-false (cover k))))
counts_added cover (a ∷ added) once others below =
    let parts = and_parts (not (list_any (λ b. b == a) added)) (are_different added) once in
    let rest = counts_added cover added parts.1 (All-tail (λ b. cover b ≡ false) a added others)
    (All-tail (λ b. b < 32) a added below) in
    let one = passing_one a (All-head (λ b. b < 32) a added below) in
    let both = passing_both (λ k. k == a) (λ k. cover k || list_any (λ b. b == k) added)
    (λ k. cover k || ((a == k) || list_any (λ b. b == k) added))
    (record {
      join = λ k. added_last (cover k) (a == k) (list_any (λ b. b == k) added)
          ∙ ap (λ t. t || (cover k || list_any (λ b. b == k) added)) (turned_test a k);
    })
    (λ k same.
    let is : k ≡ a = grind (arith, nat_tests) in
    subst (λ (n : ℕ). (cover n || list_any (λ b. b == n) added) ≡ false) (sym is)
    (or_from (cover a) (list_any (λ b. b == a) added) (All-head (λ b. cover b ≡ false) a added others)
    (not-true (list_any (λ b. b == a) added) parts.0))) in
    omega arith

module _ (claim : ClaimData) (lawful : IsLawful claim) (xs : List Exchange)
    (each : All (IsLawfulExchange (length claim.servers)) xs) (side : Side) (reading : ℕ) (cover : ℕ → Bool)
    (leeways : List ℤ) (found : ℕ → Bool)
    (are : AreLeeways claim xs (length xs) side (pos reading) leeways)
    (narrowed : IsNarrowed leeways (claim.false_max - count_by cover (numbers_below 32)) cover found) where
  -- one that isn't false lets nothing beyond the bound be, and neither do those that are
  module _ (bounded : IsBounded claim.bound leeways found) (course : Course) (fits : Fits claim xs course)
      (all_false : HasFalse claim cover course)
      (shows : course.observation.reading ≡ (pos reading *ℤ pos course.fineness))
      (off : IsOff side (claim.bound +ℤ pos 1) course) where
    is_false : (group : ℕ) → group < 32 → leeway_in leeways group ≤ℤ claim.bound
        → holds_false claim.groups course.is_false group ≡ true
    is_false group below small = by_test (holds_false claim.groups course.is_false group) (λ is. is)
        (λ outside.
        let more = (are.exact group below (claim.bound +ℤ pos 1) (omega (arith, ints))).1
        (lets_be claim lawful xs each course fits side (pos reading) (claim.bound +ℤ pos 1) shows off group outside) in
        absurd (omega (arith, ints, more, small)))

    one_more : ℕ → Bool
    one_more k = (k == bounded.0) || found k

    all_are_false : LieWithin one_more (holds_false claim.groups course.is_false)
    unfolding one_more
    all_are_false k is = ⊎_elim
        (λ same.
        let here : k ≡ bounded.0 = grind (arith, nat_tests) in
        rw here (is_false bounded.0 bounded.1.below bounded.2))
        (λ in_found. ⊎_elim
        (λ in_cover. all_false k in_cover)
        (λ in_added.
        let at = Any-from_list_any (λ a. a == k) narrowed.added in_added in
        let here : at.1 ≡ k = grind (arith, nat_tests) in
        subst (λ (n : ℕ). holds_false claim.groups course.is_false n ≡ true) (at.3 ∙ here)
        (is_false (get_or narrowed.added at.0 at.1) (narrowed.below at.0 at.1 at.2)
        (omega (arith, ints, narrowed.least at.0 at.1 at.2 bounded.0 bounded.1.below bounded.1.outside))))
        (or_cases (cover k) (list_any (λ a. a == k) narrowed.added) (sym (narrowed.join k) ∙ in_found)))
        (or_cases (k == bounded.0) (found k) is)

    pub too_many : ⊥
    unfolding one_more
    too_many =
        let as_many : length narrowed.added ≡ claim.false_max - count_by cover (numbers_below 32) = ⊎_elim
        (λ same. same)
        (λ unlimited. absurd (omega (arith, ints, unlimited bounded.0 bounded.1.below bounded.1.outside)))
        narrowed.enough in
        let few = few_false claim lawful xs each course fits in
        let all = passing_within one_more (holds_false claim.groups course.is_false) all_are_false in
        let one = passing_one bounded.0 bounded.1.below in
        let both = passing_both (λ k. k == bounded.0) found one_more (record { join = λ k. refl })
        (λ k same.
        let here : k ≡ bounded.0 = grind (arith, nat_tests) in
        subst (λ (n : ℕ). found n ≡ false) (sym here) bounded.1.outside) in
        let counted = passing_same found (λ k. cover k || list_any (λ a. a == k) narrowed.added) narrowed.join in
        let added = counts_added cover narrowed.added narrowed.once narrowed.others narrowed.below in
        omega (arith, counts_here cover)

  pub held_if_bounded : IsBounded claim.bound leeways found → HoldsFor claim xs reading side (HasFalse claim cover)
  held_if_bounded bounded course fits all_false shows off = too_many bounded course fits all_false shows off

  -- where what is made isn't accepted, rounding stands in the way
  module _ (made : RefutationData) (is : IsMade claim side reading leeways found made) where
    ticks : ℤ
    ticks = int_min is.most (greatest_of side)

    candidate : IsCandidate claim xs side reading found made
    unfolding ticks
    candidate = let between = greatest_between side in record {
      there = is.there;
      liars = is.liars;
      ticks = ticks;
      error = is.error;
      in_64_bits = subst IsErrorOf64Bits (sym is.error)
          (bits_of side ticks (omega (arith, ints, clamps, is.beyond, between.0)) (omega (arith, ints, clamps)));
      beyond_bound = omega (arith, ints, clamps, is.beyond, lawful.bound_in_range, between.0);
      let_be = λ group below outside.
          (are.exact group below ticks (omega (arith, ints, clamps, between.1))).0
          (omega (arith, ints, clamps, is.limit.least group below outside));
      greatest = λ more in_bits lets.
          let to_greatest = at_greatest side more in_bits in
          let to_most : more ≤ℤ is.most = ⊎_elim
          (λ unlimited. omega (arith, ints, to_greatest, between.1))
          (λ tight.
          let le = (are.exact tight.0 tight.1.below more (omega (arith, ints, to_greatest, between.1))).1
          (lets tight.0 tight.1.below tight.1.outside) in
          omega (arith, ints, le))
          is.limit.met in
          omega (arith, ints, clamps, to_greatest, to_most);
    }

    pub rounded : ¬ (IsRefutedWithDrift claim xs made) → IsRounded claim xs cover reading side
    rounded refutes_nothing = record {
      is_false = found;
      leeways = leeways;
      are = are;
      narrowed = narrowed;
      refutation = made;
      candidate = candidate;
      refutes_nothing = refutes_nothing;
    }

-- ---- from one place to the next

pub both_sides : {A : Type 0} (o : Option A) (P : Side → Type 0) → P Above → IfNone o (P Below)
    → IfNone o ((side : Side) → P side)
both_sides None P above below = go
  where
    go : (side : Side) → P side
    go Above = above
    go Below = below
both_sides (Some a) P above below = tt

-- ---- the covers that are tried

module _ (claim : ClaimData) (xs : List Exchange) (d : ConflictData) (groups : d.groups ≡ length claim.groups)
    (same : (is_in : ℕ → Bool) → IsCover claim xs is_in ↔ IsCoverBy d is_in) (covers : List Groups) where
  as_few : (is_in : ℕ → Bool) → group_count d is_in ≡ size_of claim is_in
  as_few is_in = ap (λ (n : ℕ). count_by is_in (numbers_below n)) groups

  pub least_covers : All (λ cover. IsCoverBy d (holds cover)) covers
      → All (λ cover. HoldsNoLessBy d (holds cover)) covers
      → All (λ cover. group_count d (holds cover) ≤ claim.false_max) covers
      → AllPairs AreApart covers
      → ((is_in : ℕ → Bool) → IsCoverBy d is_in → group_count d is_in ≤ claim.false_max
      → HoldsOneOr64 covers is_in)
      → AreLeastCovers claim xs covers
  least_covers are minimal few different all = record {
    are = λ k c below. (same (holds (get_or covers k c))).1 (are k c below);
    minimal = λ k c below other cover within. minimal k c below other ((same other).0 cover) within;
    few = λ k c below. subst (λ (n : ℕ). n ≤ claim.false_max) (as_few (holds (get_or covers k c))) (few k c below);
    different = different;
    all_or_64 = λ is_in cover small. all is_in ((same is_in).0 cover)
        (subst (λ (n : ℕ). n ≤ claim.false_max) (sym (as_few is_in)) small);
  }

-- either all of a list have the one property, or some has the other
either_all : {X : Type 0} (P Q : X → Type 0) (xs : List X) → All (λ x. P x ⊎ Q x) xs → All P xs ⊎ Any Q xs
either_all P Q [] all = inl (All-nil P)
either_all P Q (x ∷ xs) all =
    elim (All-head (λ y. P y ⊎ Q y) x xs all) [
      | inl here ↦ ⊎_elim (λ rest. inl (All-cons P x xs here rest))
          (λ some. inr (suc some.0, some.1, omega arith, some.3, some.4))
          (either_all P Q xs (All-tail (λ y. P y ⊎ Q y) x xs all))
      | inr here ↦ inr (0, x, omega arith, refl, here)
    ]

-- one of a list lies within a set, and has what all of them have
pub held_one : (P : Groups → Type 0) (xs : List Groups) (whole : ℕ → Bool) → All P xs → HoldsOne xs whole
    → (cover : Groups) × P cover × LieWithin (holds cover) whole
held_one P [] whole all one = absurd one
held_one P (x ∷ xs) whole all (inl here) = (x, All-head P x xs all, here)
held_one P (x ∷ xs) whole all (inr later) = held_one P xs whole (All-tail P x xs all) later

module _ (claim : ClaimData) (xs : List Exchange) (readings : List ℕ) (covers : List Groups)
    (least : AreLeastCovers claim xs covers)
    (cover_of : (course : Course) → Fits claim xs course → IsCover claim xs (holds_false claim.groups course.is_false))
  where
    pub are_held : (count : ℕ) → count ≡ length covers → All (IsHeldAtAll claim xs readings) covers
        → AreHeld claim xs readings count
    are_held count is each = record {
      minimal = covers;
      are = least;
      count = is;
      with_each = each;
      in_all = λ few j e below side. ⊎_elim
          (λ all. inl (λ course fits among shows off. ⊎_elim
          (λ one.
          let held = held_one (λ cover. HoldsFor claim xs (get_or readings j e) side (HasFalse claim (holds cover)))
          covers (holds_false claim.groups course.is_false) all one in
          held.1 course fits held.2 shows off)
          (λ many. omega arith)
          (least.all_or_64 (holds_false claim.groups course.is_false) (cover_of course fits) fits.few_false)))
          (λ some. inr some)
          (either_all (λ cover. HoldsFor claim xs (get_or readings j e) side (HasFalse claim (holds cover)))
          (λ cover. IsRounded claim xs (holds cover) (get_or readings j e) side) covers
          (λ k c in_covers. each k c in_covers j e below side));
    }
