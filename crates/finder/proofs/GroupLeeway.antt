-- The leeways of groups, from one exchange to the next.
use Rattle.std.proofs.Common.{below_more}
use Rattle.std.proofs.lemmas.List.{get_or-replicate}
use Rattle.finder.proofs.Common.{◌≡◌, ℕ, ◌+◌, ◌-◌, ◌*◌, ◌/◌, ◌<◌, ◌≤◌, ℤ, pos, negsuc, neg_ℤ, ◌+ℤ◌, ◌-ℤ◌, ◌*ℤ◌, ◌≤ℤ◌, ◌<ℤ◌, unsigned_abs, Bool, true, false, ◌||◌, inl, inr, ⊎_elim, List, [], ◌∷◌, Some, replicate, length, set, refl, sym, ap, ap₂, ◌∙◌, subst, arith, to_z, of_z, ◌^◌, w128, ◌↔◌, ◌==◌, slice_get, int_min, list_any, All-cons, All-nil, ints, nat_tests, le-div_iff_mul-le, ClaimData, group_of, low_mark, AreCompatible, Mark, Exchange, billion, Side, Below, Lets, DoLet, AreLeeways, IsNarrowed, IsTightest, IsUnlimited, leeway_in, mark_at, no_limit, turned, by_test, not_lt_zero, or_parts, w128_keeps, or-false}
use Rattle.finder.proofs.List.{holds_with_set}

-- ---- the greatest error under one mark

-- a multiple is at most another exactly up to a quotient
module _ (parts rate d : ℕ) (some : 0 < parts) where
  allowed_to : (asks : ℤ) → asks ≤ℤ pos (rate * d / parts) → (pos parts *ℤ asks) ≤ℤ (pos rate *ℤ pos d)
  allowed_to (pos x) h =
      let small : x ≤ rate * d / parts = omega (arith, ints, h) in
      let product : x * parts ≤ rate * d = (le-div_iff_mul-le some).0 small in
      omega (arith, ints, product)
  allowed_to (negsuc x) h = omega (arith, ints)

  allowed_from : (asks : ℤ) → (pos parts *ℤ asks) ≤ℤ (pos rate *ℤ pos d) → asks ≤ℤ pos (rate * d / parts)
  allowed_from (pos x) h =
      let product : x * parts ≤ rate * d = omega (arith, ints, h) in
      let small : x ≤ rate * d / parts = (le-div_iff_mul-le some).1 product in
      omega (arith, ints, small)
  allowed_from (negsuc x) h = omega (arith, ints)

module _ (ppb : ℕ) (slow : ppb ≤ 500000000) (reading : ℤ) (mark : Mark) (error most : ℤ) (change parts d : ℕ)
    (sum : most ≡ mark.error +ℤ pos change) (exact : change ≡ ppb * d / parts)
    (far : d ≡ unsigned_abs (mark.place -ℤ reading)) where
  at_most : 0 < parts → (error ≤ℤ most) ↔ ((pos parts *ℤ (error -ℤ mark.error)) ≤ℤ (pos ppb *ℤ pos d))
  at_most some = rw (sum, exact) (
    λ le. allowed_to parts ppb d some (error -ℤ mark.error) (omega (arith, ints, le)),
    λ h. let le = allowed_from parts ppb d some (error -ℤ mark.error) h in omega (arith, ints, le),
  )

  pub most_later : parts ≡ billion - ppb → reading ≤ℤ mark.place
      → (error ≤ℤ most) ↔ AreCompatible ppb (mark_at reading error) mark
  most_later is forth =
      let under = rw is at (at_most (omega arith)) in
      let away : mark.place -ℤ reading ≡ pos d = omega (arith, ints, far, forth) in (
        λ le. record {
          falls = λ _. rw away (under.0 le);
          rises = λ back. absurd (omega (arith, ints, forth, back));
        },
        λ agree. under.1 (rw away at (agree.falls forth)),
      )

  pub most_earlier : parts ≡ billion + ppb → mark.place <ℤ reading
      → (error ≤ℤ most) ↔ AreCompatible ppb (mark_at reading error) mark
  most_earlier is back =
      let under = rw is at (at_most (omega arith)) in
      let away : reading -ℤ mark.place ≡ pos d = omega (arith, ints, far, back) in (
        λ le. record {
          falls = λ forth. absurd (omega (arith, ints, forth, back));
          rises = λ _. rw away (under.0 le);
        },
        λ agree. under.1 (rw away at (agree.rises back)),
      )

-- ---- the clock that shows the negatives

pub negative_kept : (z : ℤ) → unsigned_abs z ≤ 2 ^ 73
    → to_z w128 (of_z w128 (pos 0 -ℤ to_z w128 (of_z w128 z))) ≡ neg_ℤ z
negative_kept z small =
    let negative : pos 0 -ℤ z ≡ neg_ℤ z = omega (arith, ints) in
    rw (w128_keeps z (omega arith)) (w128_keeps (pos 0 -ℤ z) (omega (arith, ints)) ∙ negative)

module _ (ppb : ℕ) (a b : Mark) where
  abbrev mirrored : Mark → Mark
  mirrored m = record { place = neg_ℤ m.place; error = neg_ℤ m.error }

  same_error : neg_ℤ b.error -ℤ neg_ℤ a.error ≡ a.error -ℤ b.error
  same_error = omega (arith, ints)

  same_forth : neg_ℤ a.place -ℤ neg_ℤ b.place ≡ b.place -ℤ a.place
  same_forth = omega (arith, ints)

  same_back : neg_ℤ b.place -ℤ neg_ℤ a.place ≡ a.place -ℤ b.place
  same_back = omega (arith, ints)

  -- what is low for the one clock is high for the other
  mirrored_to : AreCompatible ppb a b → AreCompatible ppb (mirrored b) (mirrored a)
  mirrored_to agree = record {
    falls = λ forth. rw (same_error, same_forth) (agree.falls (omega (arith, ints, forth)));
    rises = λ back. rw (same_error, same_back) (agree.rises (omega (arith, ints, back)));
  }

pub negated : (z : ℤ) → neg_ℤ (neg_ℤ z) ≡ z
negated z = omega (arith, ints)

module _ (claim : ClaimData) (x : Exchange) (reading ticks : ℤ) where
  abbrev low : Mark
  low = low_mark claim.reading x

  abbrev Agree : Mark → Mark → Type 0
  Agree = AreCompatible claim.drift_ppb

  pub let_below : (place error : ℤ) → place ≡ neg_ℤ low.place → error ≡ neg_ℤ low.error
      → Agree (mark_at (turned Below reading) ticks) (mark_at place error) ↔ Lets claim Below reading ticks x
  let_below place error at_place at_error = rw (at_place, at_error) (
    λ agree. rw (negated low.place, negated low.error, negated reading) at (mirrored_to claim.drift_ppb
        (mark_at (neg_ℤ reading) ticks) (mark_at (neg_ℤ low.place) (neg_ℤ low.error)) agree),
    λ lets. rw (negated ticks) at (mirrored_to claim.drift_ppb low (mark_at reading (neg_ℤ ticks)) lets),
  )

-- ---- lists of leeways

-- 128 bits keep them as they are
abbrev pub AreKept : List ℤ → Type 0
AreKept leeways = (group : ℕ) → group < 32 → to_z w128 (of_z w128 (leeway_in leeways group)) ≡ leeway_in leeways group

pub replicated_kept : AreKept (replicate 32 no_limit)
replicated_kept group below = rw (get_or-replicate 32 group no_limit no_limit below) refl

pub still_kept : (leeways : List ℤ) (at : ℕ) (now : ℤ) → at < length leeways → to_z w128 (of_z w128 now) ≡ now
    → AreKept leeways → AreKept (set leeways at now)
still_kept leeways at now within kept' before =
    holds_with_set (λ group z. to_z w128 (of_z w128 z) ≡ z) leeways at 32 now no_limit within kept'
    (λ group below other. before group below)

-- ---- one exchange more

module _ (claim : ClaimData) (xs : List Exchange) (side : Side) (reading : ℤ) where
  pub none_yet : (leeways : List ℤ) → ((group : ℕ) → group < 32 → leeway_in leeways group ≡ no_limit)
      → AreLeeways claim xs 0 side reading leeways
  none_yet leeways are = record {
    exact = λ group below ticks few. (
      λ _ k x first. absurd (not_lt_zero k first),
      λ _. rw (are group below) (omega (arith, ints, few)),
    );
  }

  module _ (n : ℕ) (x : Exchange) (at : slice_get xs n ≡ Some x) (leeways : List ℤ)
      (before : AreLeeways claim xs n side reading leeways) (all : length leeways ≡ 32)
      (most now : ℤ) (leaves : (ticks : ℤ) → (ticks ≤ℤ most) ↔ Lets claim side reading ticks x)
      (least : now ≡ int_min (leeway_in leeways (group_of claim x)) most)
      (in_range : group_of claim x < 32) where
    one_more : (group : ℕ) (ticks : ℤ) → DoLet claim xs n side reading group ticks
        → (group_of claim x ≡ group → Lets claim side reading ticks x)
        → DoLet claim xs (n + 1) side reading group ticks
    one_more group ticks first last k y = below_more
        (λ k. slice_get xs k ≡ Some y → group_of claim y ≡ group → Lets claim side reading ticks y) n (λ k. first k y)
        (λ at_n of_group.
        let both : Some x ≡ Some y = sym at ∙ at_n in
        let is : x ≡ y = cc in
        subst (Lets claim side reading ticks) is (last (ap (group_of claim) is ∙ of_group))) k

    one_fewer : (group : ℕ) (ticks : ℤ) → DoLet claim xs (n + 1) side reading group ticks
        → DoLet claim xs n side reading group ticks
    one_fewer group ticks lets k y below = lets k y (omega arith)

    min_le : (a b c : ℤ) → c ≡ int_min a b → (t : ℤ) → t ≤ℤ c → (t ≤ℤ a) × (t ≤ℤ b)
    min_le a b c is t h = (grind (arith, ints), grind (arith, ints))

    le_min : (a b c : ℤ) → c ≡ int_min a b → (t : ℤ) → t ≤ℤ a → t ≤ℤ b → t ≤ℤ c
    le_min a b c is t h k = grind (arith, ints)

    pub one_more_leeway : AreLeeways claim xs (n + 1) side reading (set leeways (group_of claim x) now)
    one_more_leeway = record {
      exact = holds_with_set (λ group leeway. (ticks : ℤ) → ticks <ℤ no_limit
          → (ticks ≤ℤ leeway) ↔ DoLet claim xs (n + 1) side reading group ticks)
          leeways (group_of claim x) 32 now no_limit (omega (arith, all, in_range))
          (λ ticks few.
          let earlier = before.exact (group_of claim x) in_range ticks few in (
            λ le.
                let both = min_le (leeway_in leeways (group_of claim x)) most now least ticks le in
                one_more (group_of claim x) ticks (earlier.0 both.0) (λ _. (leaves ticks).0 both.1),
            λ lets. le_min (leeway_in leeways (group_of claim x)) most now least ticks
                (earlier.1 (one_fewer (group_of claim x) ticks lets))
                ((leaves ticks).1 (lets n x (omega arith) at refl)),
          ))
          (λ group below other ticks few.
          let earlier = before.exact group below ticks few in (
            λ le. one_more group ticks (earlier.0 le) (λ of_group. absurd (other (sym of_group))),
            λ lets. earlier.1 (one_fewer group ticks lets),
          ));
    }

-- ---- the tightest of the groups below a number

pub record IsTightestTo (leeways : List ℤ) (left_out : ℕ → Bool) (n tightest : ℕ) (least : ℤ) : Type 0 where
  pub at_most : least ≤ℤ no_limit
  pub its_own : least <ℤ no_limit → (left_out tightest ≡ false) × (leeway_in leeways tightest ≡ least)
  pub least_of : (other : ℕ) → other < n → left_out other ≡ false → least ≤ℤ leeway_in leeways other

module _ (leeways : List ℤ) (left_out : ℕ → Bool) where
  module _ (n tightest : ℕ) (least : ℤ) (before : IsTightestTo leeways left_out n tightest least) where
    pub tighter : left_out n ≡ false → leeway_in leeways n <ℤ least
        → IsTightestTo leeways left_out (n + 1) n (leeway_in leeways n)
    tighter outside less = record {
      at_most = omega (arith, ints, less);
      its_own = λ _. (outside, refl);
      least_of = below_more (λ other. left_out other ≡ false → leeway_in leeways n ≤ℤ leeway_in leeways other) n
          (λ other earlier out. let le = before.least_of other earlier out in omega (arith, ints, less, le))
          (λ out. omega (arith, ints));
    }

    pub no_tighter : (left_out n ≡ false → least ≤ℤ leeway_in leeways n)
        → IsTightestTo leeways left_out (n + 1) tightest least
    no_tighter last = record {
      at_most = before.at_most;
      its_own = before.its_own;
      least_of = below_more (λ other. left_out other ≡ false → least ≤ℤ leeway_in leeways other) n before.least_of last;
    }

-- ---- groups that are added to a cover

pub added_last : (a b c : Bool) → (a || (b || c)) ≡ (b || (a || c))
added_last true true c = refl
added_last true false c = refl
added_last false b c = refl

pub turned_test : (a b : ℕ) → (a == b) ≡ (b == a)
turned_test a b = by_test (a == b) (λ t. grind (arith, nat_tests)) (λ t. grind (arith, nat_tests))

module _ (leeways : List ℤ) (cover : ℕ → Bool) where
  pub none_added : IsNarrowed leeways 0 cover cover
  none_added = record {
    added = [];
    join = λ group. sym (or-false (cover group));
    below = All-nil (λ a. a < 32);
    once = refl;
    others = All-nil (λ a. cover a ≡ false);
    least = λ k d below. absurd (omega arith);
    few = omega arith;
    enough = inl refl;
  }

  module _ (n : ℕ) (found : ℕ → Bool) (before : IsNarrowed leeways n cover found) where
    pub all_limited : IsUnlimited leeways found → IsNarrowed leeways (n + 1) cover found
    all_limited unlimited = record {
      added = before.added;
      join = before.join;
      below = before.below;
      once = before.once;
      others = before.others;
      least = before.least;
      few = omega arith;
      enough = inr unlimited;
    }

    pub one_added : (group : ℕ) (now : ℕ → Bool) → IsTightest leeways found group
        → ((k : ℕ) → now k ≡ ((k == group) || found k)) → IsNarrowed leeways (n + 1) cover now
    one_added group now tightest is = record {
      added = group ∷ before.added;
      join = λ k. is k ∙ ap₂ (λ (a b : Bool). a || b) (turned_test k group) (before.join k)
          ∙ added_last (group == k) (cover k) (list_any (λ a. a == k) before.added);
      below = All-cons (λ a. a < 32) group before.added tightest.below before.below;
      once = rw ((or_parts (cover group) (list_any (λ a. a == group) before.added) absent).1, before.once) refl;
      others = All-cons (λ a. cover a ≡ false) group before.added
          (or_parts (cover group) (list_any (λ a. a == group) before.added) absent).0 before.others;
      least = All-cons (λ a. (other : ℕ) → other < 32 → now other ≡ false
          → leeway_in leeways a ≤ℤ leeway_in leeways other) group before.added
          (λ other below outside. tightest.least other below (left other outside))
          (λ k d within other below outside. before.least k d within other below (left other outside));
      few = omega arith;
      enough = ⊎_elim
          (λ same. inl (let is' : length before.added ≡ n = same in omega (arith, is')))
          (λ unlimited. absurd (omega (arith, ints, unlimited group tightest.below tightest.outside)))
          before.enough;
    }
      where
        left : (other : ℕ) → now other ≡ false → found other ≡ false
        left other outside = (or_parts (other == group) (found other) (sym (is other) ∙ outside)).1

        absent : (cover group || list_any (λ a. a == group) before.added) ≡ false
        absent = sym (before.join group) ∙ tightest.outside
