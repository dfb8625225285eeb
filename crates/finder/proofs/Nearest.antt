-- The nearest error that few enough groups refuse.
use Rattle.std.proofs.Common.{below_more}
use Rattle.finder.proofs.Common.{◌≡◌, ℕ, zero, suc, ◌+◌, ◌-◌, ◌<◌, ◌≤◌, ◌^◌, ℤ, pos, neg_ℤ, to_z, of_z, w128, w128_keeps, ◌+ℤ◌, ◌-ℤ◌, ◌≤ℤ◌, ◌<ℤ◌, int_lt, unsigned_abs, Bool, true, false, true≢false, List, length, sym, ap, ◌∙◌, ◌⊎◌, inl, inr, arith, ints, leaves_out, ClaimData, Interval, room_at, refused_by, possible_by, IsFirstBeyond, after, Side, Above, Below, least_on, turned, by_test, leb-true, le-leb, nat_tests}
use Rattle.finder.proofs.Group.{no_more_groups}

pub int_cases : (a b : ℤ) → (a <ℤ b) ⊎ (b ≤ℤ a)
int_cases a b = by_test (int_lt a b) (λ e. inl (grind (arith, ints))) (λ e. inr (grind (arith, ints)))

pub after_is : (bound number : ℤ) → bound <ℤ number → after bound (unsigned_abs (number -ℤ bound) - 1) ≡ number
after_is bound number beyond = omega (arith, ints)

-- the error before one that an interval has is in it too, unless the interval begins at the one
inside_before : (side : Side) (room : Interval) (before error : ℤ) → error ≡ before +ℤ pos 1
    → (least_on side room ≡ error → ⊥) → leaves_out room (turned side error) ≡ false
    → leaves_out room (turned side before) ≡ false
inside_before Above room before error is later inside = grind (arith, ints)
inside_before Below room before error is later inside = grind (arith, ints)

pub turned_kept : (side : Side) (ticks now : ℤ) → now ≡ turned side ticks → unsigned_abs ticks ≤ 2 ^ 100
    → to_z w128 (of_z w128 now) ≡ turned side ticks
turned_kept Above ticks now is small = rw is (w128_keeps ticks (omega (arith, small)))
turned_kept Below ticks now is small = rw is (w128_keeps (neg_ℤ ticks) (omega (arith, ints, small)))

module _ (side : Side) (rooms : List Interval) (claim : ClaimData) where
  abbrev possible : ℤ → Bool
  possible error = possible_by rooms claim (turned side error)

  abbrev start : ℕ → ℤ
  start server = least_on side (room_at rooms server)

  -- the first that was found of the first n starts and the limit's successor
  pub record SoFar (limit : ℤ) (n : ℕ) (first : ℤ) : Type 0 where
    pub beyond : claim.bound <ℤ first
    pub within : first ≤ℤ (limit +ℤ pos 1)
    pub passes : first ≤ℤ limit → possible first ≡ true
    pub least : (server : ℕ) → server < n → claim.bound <ℤ start server → possible (start server) ≡ true
        → first ≤ℤ start server

  -- what is known of the first that was found
  module _ (few : length claim.groups ≤ 32) (first : ℤ) (next_fails : possible (claim.bound +ℤ pos 1) ≡ false)
      (least : (server : ℕ) → server < 32 → claim.bound <ℤ start server → possible (start server) ≡ true
      → first ≤ℤ start server) where
    possible_before : (before error : ℤ) → error ≡ before +ℤ pos 1 → claim.bound <ℤ error → error <ℤ first
        → possible error ≡ true → possible before ≡ true
    possible_before before error is above less passes =
        let most = leb-true _ _ passes in
        let fewer = no_more_groups claim.groups (refused_by rooms (turned side before))
        (refused_by rooms (turned side error)) (λ server below refused.
        by_test (refused_by rooms (turned side error) server) (λ e. e) (λ e.
        absurd (true≢false (sym refused ∙ inside_before side (room_at rooms server) before error is
        (λ same. let le = least server (omega arith) (rw same above) (rw same passes) in omega (arith, ints)) e)))) in
        le-leb _ _ (omega arith)

    fails_after : (n : ℕ) → after claim.bound n <ℤ first → possible (after claim.bound n) ≡ false
    fails_after zero less = next_fails
    fails_after (suc n) less = by_test (possible (after claim.bound (suc n)))
        (λ passes. absurd (true≢false (sym (possible_before (after claim.bound n) (after claim.bound (suc n))
        (omega (arith, ints)) (omega (arith, ints)) less passes) ∙ fails_after n (omega (arith, ints)))))
        (λ fails. fails)

    pub fails_before : (other : ℤ) → claim.bound <ℤ other → other <ℤ first → possible other ≡ false
    fails_before other above before =
        let is = after_is claim.bound other above in
        sym (ap possible is) ∙ fails_after (unsigned_abs (other -ℤ claim.bound) - 1) (rw is before)

  -- the first of all
  pub next_is_nearest : (limit : ℤ) → claim.bound <ℤ limit → possible (claim.bound +ℤ pos 1) ≡ true
      → IsFirstBeyond possible claim.bound limit (claim.bound +ℤ pos 1)
  next_is_nearest limit beyond passes = grind (arith, ints)

  pub nothing_so_far : (limit : ℤ) → claim.bound <ℤ limit → SoFar limit 0 (limit +ℤ pos 1)
  nothing_so_far limit beyond = grind (arith, ints)

  module _ (limit : ℤ) (n : ℕ) (first : ℤ) (so_far : SoFar limit n first) where
    pub taken : (error : ℤ) → error ≡ start n → claim.bound <ℤ error → error <ℤ first → possible error ≡ true
        → SoFar limit (n + 1) error
    taken error is above before passes = grind (arith, ints, nat_tests, so_far.within)

    pub passed : (claim.bound <ℤ start n → possible (start n) ≡ true → first ≤ℤ start n) → SoFar limit (n + 1) first
    passed no_nearer = record {
      beyond = so_far.beyond;
      within = so_far.within;
      passes = so_far.passes;
      least = below_more
          (λ server. claim.bound <ℤ start server → possible (start server) ≡ true → first ≤ℤ start server) n
          so_far.least no_nearer;
    }

  module _ (few : length claim.groups ≤ 32) (limit first : ℤ) (so_far : SoFar limit 32 first)
      (next_fails : possible (claim.bound +ℤ pos 1) ≡ false) where
    pub first_is_nearest : first ≤ℤ limit → IsFirstBeyond possible claim.bound limit first
    first_is_nearest within = record {
      beyond = so_far.beyond;
      within = within;
      passes = so_far.passes within;
      others_fail = fails_before few first next_fails so_far.least;
    }

    pub none_is_nearest : limit <ℤ first → (other : ℤ) → claim.bound <ℤ other → other ≤ℤ limit
        → possible other ≡ false
    none_is_nearest none other above le =
        fails_before few first next_fails so_far.least other above (omega (arith, ints))
