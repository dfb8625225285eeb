-- The best samples of a server.
use Rattle.std.proofs.Common.{◌≡◌, ℕ, ℤ, List, Option, None, Some, MatchOption, subst}
use Rattle.sample_interval.specs.declared.kinds.Sample.{Sample}
use Rattle.span_cover.specs.Best.{HasNoSample, IsBestLow, IsBestHigh, best_of}
use Rattle.span_cover.proofs.BestSample.{best_numbers}

module _ (samples : List Sample) (server : ℕ) (p q : ℤ) (ppb : ℕ) where
  -- the numbers of the two best samples
  abbrev pub AreBest : ℕ × ℕ → Type 0
  AreBest best = IsBestLow samples server p q ppb best.0 × IsBestHigh samples server p q ppb best.1

  best_at : (best : Option (ℕ × ℕ)) → best_of samples server p q ppb ≡ best
      → MatchOption best (HasNoSample samples server) AreBest
  best_at best is =
      subst (λ (o : Option (ℕ × ℕ)). MatchOption o (HasNoSample samples server) AreBest) is
      (best_numbers samples server p q ppb)

  pub best_of_is : (best : ℕ × ℕ) → best_of samples server p q ppb ≡ Some best → AreBest best
  best_of_is best is = best_at (Some best) is

  pub best_of_none : best_of samples server p q ppb ≡ None → HasNoSample samples server
  best_of_none is = best_at None is
