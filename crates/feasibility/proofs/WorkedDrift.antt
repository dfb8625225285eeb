-- The two exchanges an hour apart.
use Rattle.feasibility.proofs.Common.{◌≡◌, ℕ, ◌+◌, ◌-◌, ◌<◌, ◌≤◌, ℤ, pos, ◌+ℤ◌, ◌-ℤ◌, ◌*ℤ◌, ◌≤ℤ◌, ◌<ℤ◌, Bool, true, false, inr, [], ◌∷◌, count_by, refl, arith, All, int_le, ints, All-nil, All-cons, billion, IsRefuted, Mark, low_mark, high_mark, AreCompatible, mark_of, IsRefutedWithDrift, Contradicts, SomeCourse, not_both, nat_tests}
use Rattle.checker.specs.WorkedCourse.{worked_exchange}
use Rattle.checker.specs.WorkedRefutation.{claim_with, refutation_with}
use Rattle.feasibility.specs.WorkedDrift.{later_exchange, both_exchanges, drifting_claim}
use Rattle.feasibility.proofs.Covers.{small_cover}

-- ---- compatible by a test

not_le_from : (a b : ℤ) → int_le a b ≡ false → b <ℤ a
not_le_from a b e = grind (arith, ints)

ahead : (ppb : ℕ) (low high : Mark) → int_le low.place high.place ≡ true
    → int_le (pos (billion - ppb) *ℤ (low.error -ℤ high.error)) (pos ppb *ℤ (high.place -ℤ low.place)) ≡ true
    → AreCompatible ppb low high
ahead ppb low high place test = grind (arith, ints)

behind : (ppb : ℕ) (low high : Mark) → int_le low.place high.place ≡ false
    → int_le (pos (billion + ppb) *ℤ (low.error -ℤ high.error)) (pos ppb *ℤ (low.place -ℤ high.place)) ≡ true
    → AreCompatible ppb low high
behind ppb low high place test = grind arith

too_far : (ppb : ℕ) (low high : Mark) → int_le low.place high.place ≡ false
    → int_le (pos (billion + ppb) *ℤ (low.error -ℤ high.error)) (pos ppb *ℤ (low.place -ℤ high.place)) ≡ false
    → ¬ (AreCompatible ppb low high)
too_far ppb low high place test agree = not_both _ _ (agree.rises (not_le_from _ _ place)) (not_le_from _ _ test)

-- ---- with a hundred parts in a million

abbrev later_low : Mark
later_low = low_mark (pos 0) later_exchange

abbrev first_high : Mark
first_high = high_mark (pos 0) worked_exchange

abbrev own : Mark
own = mark_of (refutation_with (pos 42953968) [])

all_two : {X : Type 0} (P : X → Type 0) (a b : X) → P a → P b → All P (a ∷ b ∷ [])
all_two P a b at_a at_b = All-cons P a (b ∷ []) at_a (All-cons P b [] at_b (All-nil P))

pub drift_explains : IsRefuted (claim_with 42953967 0) (worked_exchange ∷ []) (refutation_with (pos 42953968) [])
    → IsRefutedWithDrift (drifting_claim 100000) both_exchanges (refutation_with (pos 42953968) [])
drift_explains refuted = grind (arith, ints, nat_tests, refuted.against)

-- ---- with no drift, and with ten parts in a million

apart : (start end t2 distance start' t2' error : ℤ) → (t2 -ℤ distance) ≤ℤ (end -ℤ error)
    → (start' -ℤ error) ≤ℤ (t2' +ℤ distance) → (end -ℤ t2 +ℤ distance) <ℤ (start' -ℤ t2' -ℤ distance) → ⊥
apart start end t2 distance start' t2' error first later gap = omega (arith, ints)

pub no_steady_clock : (error : ℤ) → IsRefuted (drifting_claim 100000) both_exchanges (refutation_with error []) → ⊥
no_steady_clock error refuted =
    grind (
      arith,
      refuted.admits 0 worked_exchange (omega arith) refl,
      refuted.admits 1 worked_exchange (omega arith)
          refl,
    )

never_empty : (is_in : ℕ → Bool) → is_in 0 ≡ true → count_by is_in (0 ∷ []) ≤ 0 → ⊥
never_empty is_in h small = let counted : count_by is_in (0 ∷ []) ≡ 1 = rw h refl in omega arith

pub no_slow_clock : SomeCourse (drifting_claim 10000) both_exchanges → ⊥
no_slow_clock (course, fits) =
    let listed : All (λ x. x.server < 1) both_exchanges =
    all_two (λ x. x.server < 1) worked_exchange later_exchange (omega arith) (omega arith) in
    let (is_in, cover, small) = small_cover (drifting_claim 10000) (omega arith) both_exchanges listed course fits in
    let against_itself : Contradicts (drifting_claim 10000) both_exchanges 0 0 = record {
      low_number = 1;
      high_number = 0;
      low = later_exchange;
      high = worked_exchange;
      low_stands = refl;
      high_stands = refl;
      in_low_group = refl;
      in_high_group = refl;
      not_compatible = too_far 10000 later_low first_high refl refl;
    } in
    never_empty is_in (cover.broken 0 (inr against_itself)) small
