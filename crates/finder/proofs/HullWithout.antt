-- The hull over a stretch where the groups of a cover have no say.
use Rattle.finder.proofs.Common.{◌≡◌, ℕ, zero, suc, ◌+◌, ◌<◌, ◌≤◌, Bool, true, false, cond, not, List, [], ◌∷◌, ◌++◌, length, take, append-nil, get_or, refl, sym, ap, ◌∙◌, subst, arith, ints, clamps, slice_index, All-filter, filter, Any, max_drift_ppb, Hull, Unbounded, Empty, Bounded, Sample, ClaimData, IsPiece, Part, Stretch, AreNarrower, IsNarrower, numbers_below, best_entries, parts_named, piece_hull, HoldsWhole, AreSamplesOf, IsNoWider, NeedsAtMost, has_say, hull_without}
use Rattle.std.specs.Prelude.{count_by, ◌-◌}
use Rattle.std.proofs.lemmas.List.Elements.{filter_more, filter_passes}
use Rattle.finder.proofs.GroupHull.{narrower_is_no_wider}
use Rattle.finder.proofs.Narrow.{parts_narrow}

-- ---- of the parts that pass a test on their servers each has a narrower one too

module _ (P : Part → Type 0) where
  kept_here : (b : Bool) (x : Part) (xs : List Part) → b ≡ true → P x → Any P (cond b (x ∷ xs) xs)
  kept_here true x xs passes holds = (0, x, omega arith, refl, holds)
  kept_here false x xs passes holds = absurd cc

  kept_later : (b : Bool) (x : Part) (xs : List Part) → Any P xs → Any P (cond b (x ∷ xs) xs)
  kept_later true x xs any = (suc any.0, any.1, omega arith, any.3, any.4)
  kept_later false x xs any = any

  kept : (test : Part → Bool) (xs : List Part) (k : ℕ) (y : Part) → k < length xs → get_or xs k y ≡ y → P y
      → test y ≡ true → Any P (filter test xs)
  kept test [] k y within is holds passes = absurd (omega (arith, within))
  kept test (x ∷ xs) zero y within is holds passes =
      kept_here (test x) x (filter test xs) (ap test is ∙ passes) (subst P (sym is) holds)
  kept test (x ∷ xs) (suc k) y within is holds passes =
      kept_later (test x) x (filter test xs) (kept test xs k y (omega (arith, within)) is holds passes)

narrower_kept : (test : Part → Bool) → ((a b : Part) → a.server ≡ b.server → test a ≡ test b)
    → (parts next : List Part) → AreNarrower parts next → AreNarrower (filter test parts) (filter test next)
narrower_kept test same parts next each = λ k d within.
    let part = get_or (filter test parts) k d in
    let other = All-filter test (λ part. Any (IsNarrower part) next) parts each k d within in
    let passes = filter_passes test parts k d within in
    kept (IsNarrower part) test next other.0 other.1 other.2 other.3 other.4
    (sym (same part other.1 other.4.server) ∙ passes)

-- ---- parts that are kept one after another

module _ (test : Part → Bool) (xs : List Part) (i : ℕ) (d : Part) (old : List Part)
    (so_far : old ≡ filter test (take i xs)) (within : i < length xs) where
  pub one_more_kept : (new : List Part) → test (get_or xs i d) ≡ true → new ≡ old ++ get_or xs i d ∷ []
      → new ≡ filter test (take (i + 1) xs)
  one_more_kept new passes pushed = grind (arith, filter_more test xs i d within, append-nil)

  pub one_passed_over : test (get_or xs i d) ≡ false → old ≡ filter test (take (i + 1) xs)
  one_passed_over fails = grind (arith, filter_more test xs i d within, append-nil)

-- ---- the hull

pub no_wider_without : (samples : List Sample) (claim : ClaimData) (cover : ℕ → Bool) (outer inner : Stretch)
    → claim.drift_ppb ≤ max_drift_ppb → AreSamplesOf claim samples → IsPiece inner.begin inner.end
    → HoldsWhole outer inner
    → IsNoWider (hull_without samples claim cover outer) (hull_without samples claim cover inner)
unfolding hull_without
no_wider_without samples claim cover outer inner rate are piece whole =
    let parts = parts_named samples claim outer (best_entries samples claim outer) in
    let next = parts_named samples claim inner (best_entries samples claim inner) in
    narrower_is_no_wider claim.groups (claim.false_max - count_by cover (numbers_below 32))
    (filter (has_say claim.groups cover) parts) (filter (has_say claim.groups cover) next)
    (narrower_kept (has_say claim.groups cover)
    (λ a b server. ap (λ (s : ℕ). not (cover (slice_index claim.groups s))) server) parts next
    (parts_narrow samples claim outer inner rate are piece whole))

-- what is kept of what the best entries say has it
pub hull_said : (samples : List Sample) (claim : ClaimData) (cover : ℕ → Bool) (stretch : Stretch) (parts : List Part)
    (left : ℕ) → parts ≡ filter (has_say claim.groups cover)
    (parts_named samples claim stretch (best_entries samples claim stretch))
    → left ≡ claim.false_max - count_by cover (numbers_below 32)
    → piece_hull claim.groups left parts ≡ hull_without samples claim cover stretch
unfolding hull_without
hull_said samples claim cover stretch parts left kept few = rw (kept, few) refl

-- what is no wider needs no more
pub needs_no_more : (most : ℕ) (outer inner : Hull) → IsNoWider outer inner → NeedsAtMost most outer
    → NeedsAtMost most inner
needs_no_more most (Bounded lo hi) (Bounded lo' hi') within need = omega (arith, ints, clamps, need)
needs_no_more most (Bounded lo hi) Empty within need = omega arith
needs_no_more most (Bounded lo hi) Unbounded within need = absurd within
needs_no_more most Empty inner within need = subst (λ (h : Hull). NeedsAtMost most h) (sym within) (omega arith)
needs_no_more most Unbounded inner within need = absurd need
