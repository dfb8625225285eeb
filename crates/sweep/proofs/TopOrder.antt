-- The higher of two tops.
use Rattle.sweep.proofs.Common.{◌≡◌, ℕ, ◌<◌, ◌≤◌, true, false, Option, None, Some, refl, arith, ◌⊎◌, inl, inr, ⊎_elim, cond, nat_tests, IsTop, IsTopOf, is_above, higher_of, Top}

-- indexes that reach the same levels have the same top
pub same_top : (first second : ℕ → ℕ → Type 0) (top : Option Top) →
    ((index level : ℕ) → first index level → second index level) →
    ((index level : ℕ) → second index level → first index level) → IsTopOf first top → IsTopOf second top
same_top first second None there back none = λ index level reaches. none index level (back index level reaches)
same_top first second (Some top) there back is = record {
  reached = there top.index top.level is.reached;
  highest = λ index level reaches. is.highest index level (back index level reaches);
  first = λ index reaches. is.first index (back index top.level reaches);
}

-- ---- of two
above : (one other : Top) → is_above other one ≡ true →
    (one.level < other.level) ⊎ ((other.level ≡ one.level) × (other.index ≤ one.index))
above one other h = grind (arith, nat_tests)

not_above : (one other : Top) → is_above other one ≡ false →
    (other.level < one.level) ⊎ ((one.level ≡ other.level) × (one.index ≤ other.index))
not_above one other h = grind (arith, nat_tests)

abbrev pub Either : (ℕ → ℕ → Type 0) → (ℕ → ℕ → Type 0) → ℕ → ℕ → Type 0
Either first second index level = first index level ⊎ second index level

wins : (first second : ℕ → ℕ → Type 0) (one other : Top) → IsTop first one → IsTop second other →
    (other.level < one.level) ⊎ ((one.level ≡ other.level) × (one.index ≤ other.index)) →
    IsTop (Either first second) one
wins first second one other a b over = grind arith

module _ (first second : ℕ → ℕ → Type 0) where
  turned : (top : Option Top) → IsTopOf (Either second first) top → IsTopOf (Either first second) top
  turned top = grind arith

  -- the higher of two tops is the top of both
  pub top-higher_of : (one other : Option Top) → IsTopOf first one → IsTopOf second other →
      IsTopOf (Either first second) (higher_of one other)
  top-higher_of None other a b = same_top second (Either first second) other (λ index level. inr)
      (λ index level. ⊎_elim (λ reaches. absurd (a index level reaches)) (λ reaches. reaches)) b
  top-higher_of (Some one) None a b = same_top first (Either first second) (Some one) (λ index level. inl)
      (λ index level. ⊎_elim (λ reaches. reaches) (λ reaches. absurd (b index level reaches))) a
  top-higher_of (Some one) (Some other) a b =
      elim (is_above other one) as (λ t. is_above other one ≡ t →
      IsTopOf (Either first second) (cond t (Some other) (Some one))) [
        | true ↦ λ e. turned (Some other) (wins second first other one b a (above one other e))
        | false ↦ λ e. wins first second one other a b (not_above one other e)
      ] refl
