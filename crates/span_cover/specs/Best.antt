-- The samples of a server that make its interval over a piece narrowest.
--
-- For the low end that is the sample whose moved low is greatest, for the high end the one whose
-- moved high is least. Of several that agree it is the first.
use Rattle.std.specs.Prelude.{◌≡◌, ◌≢◌, ℕ, ◌+◌, ◌<◌, ℤ, ◌≤ℤ◌, ◌<ℤ◌, neg_ℤ, int_lt, nat_eq, List, [], ◌∷◌, Option, None, Some, slice_get, if◌then◌else◌}
use Rattle.span_cover.specs.Common.{option_map, Sample, Side, Low, High}
use Rattle.span_cover.specs.Piece.{moved_low, moved_high}

-- none of the samples is of this server
abbrev pub HasNoSample : List Sample → ℕ → Type 0
HasNoSample samples server =
    (i : ℕ) (s : Sample) → slice_get samples i ≡ Some s → s.server ≢ server

-- number k is the first of the server's samples than which none has more merit
pub record IsFirstBest (merit : Sample → ℤ) (samples : List Sample) (server k : ℕ) : Type 0 where
  pub sample : Sample
  pub stands : slice_get samples k ≡ Some sample
  pub of_server : sample.server ≡ server
  pub greatest : (i : ℕ) (s : Sample) → slice_get samples i ≡ Some s → s.server ≡ server →
      merit s ≤ℤ merit sample
  pub first : (i : ℕ) (s : Sample) → slice_get samples i ≡ Some s → s.server ≡ server →
      i < k → merit s <ℤ merit sample

-- the sample with the greatest moved low
abbrev pub IsBestLow : List Sample → ℕ → ℤ → ℤ → ℕ → ℕ → Type 0
IsBestLow samples server p q ppb = IsFirstBest (λ s. moved_low s p q ppb) samples server

-- the sample with the least moved high
abbrev pub IsBestHigh : List Sample → ℕ → ℤ → ℤ → ℕ → ℕ → Type 0
IsBestHigh samples server p q ppb = IsFirstBest (λ s. neg_ℤ (moved_high s p q ppb)) samples server

-- ---- the same as a function: the best of the samples from number n on, with its merit

-- of a sample and the best of those that follow: the sample, unless that has more merit
abbrev pub better : ℕ → ℤ → Option (ℕ × ℤ) → Option (ℕ × ℤ)
better n merit None = Some (n, merit)
better n merit (Some later) =
    if int_lt merit later.1 then Some later else Some (n, merit)

abbrev pub best_from : (Sample → ℤ) → ℕ → ℕ → List Sample → Option (ℕ × ℤ)
best_from merit server n [] = None
best_from merit server n (s ∷ samples) =
    if nat_eq s.server server
    then better n (merit s) (best_from merit server (n + 1) samples)
    else best_from merit server (n + 1) samples

abbrev pub first_best_of : (Sample → ℤ) → List Sample → ℕ → Option ℕ
first_best_of merit samples server = option_map (λ b. b.0) (best_from merit server 0 samples)

-- how good a sample is for an end
abbrev pub merit : Side → Sample → ℤ → ℤ → ℕ → ℤ
merit Low sample p q ppb = moved_low sample p q ppb
merit High sample p q ppb = neg_ℤ (moved_high sample p q ppb)

-- both numbers, if the server has a sample
abbrev pub pair_of : Option ℕ → Option ℕ → Option (ℕ × ℕ)
pair_of (Some low) (Some high) = Some (low, high)
pair_of (Some low) None = None
pair_of None high = None

unfoldable pub best_of : List Sample → ℕ → ℤ → ℤ → ℕ → Option (ℕ × ℕ)
best_of samples server p q ppb =
    pair_of
    (first_best_of (λ s. moved_low s p q ppb) samples server)
    (first_best_of (λ s. neg_ℤ (moved_high s p q ppb)) samples server)
