-- Samples that are taken one by one, and what has to be kept of them: for each server the interval
-- of its best samples over one piece of time, the same as if they were chosen from the whole list.
use Rattle.std.specs.Prelude.{◌≡◌, ℕ, ◌<◌, ℤ, List, Option, Some, None, slice_get, option_and_then}
use Rattle.span_cover.specs.Common.{Interval, IsRate, Sample}
use Rattle.span_cover.specs.Best.{best_of}
use Rattle.span_cover.specs.Piece.{IsPiece, piece_interval_of}

-- the interval of the piece, if there is a sample for each end
abbrev pub interval_between : Option Sample → Option Sample → ℤ → ℤ → ℕ → Option Interval
interval_between (Some low) (Some high) p q ppb = Some (piece_interval_of low high p q ppb)
interval_between (Some low) None p q ppb = None
interval_between None high p q ppb = None

-- the interval of a server's best samples, if it has a sample
abbrev pub best_interval : List Sample → ℕ → ℤ → ℤ → ℕ → Option Interval
best_interval samples server p q ppb =
    option_and_then
    (λ best. interval_between (slice_get samples best.0) (slice_get samples best.1) p q ppb)
    (best_of samples server p q ppb)

-- a piece, a rate, and an entry for each server: its interval, if it has a sample
pub record Gathering : Type 0 where
  pub p : ℤ
  pub q : ℤ
  pub drift_ppb : ℕ
  pub intervals : List (Option Interval)

-- a piece and a rate for which intervals are given
pub record IsGatheredOver (p q : ℤ) (ppb : ℕ) : Type 0 where
  pub piece : IsPiece p q
  pub rate : IsRate ppb

-- these are the samples that were taken, for this piece and rate
pub record Gathered (samples : List Sample) (p q : ℤ) (ppb : ℕ) (best : Gathering) : Type 0 where
  pub from : best.p ≡ p
  pub to : best.q ≡ q
  pub rate : best.drift_ppb ≡ ppb
  pub entries : (server : ℕ) → server < 32 →
      slice_get best.intervals server ≡ Some (best_interval samples server p q ppb)
