-- What a server's best samples say is said by samples of that server.
use Rattle.checker.proofs.Common.{◌≡◌, ℕ, List, [], ◌∷◌, length, Option, Some, None, All, slice_get, filter_map, option_map, option_and_then, All-nil, All-cons_option, ClaimData, Sample, numbers_below, IsOfSamples, best_part, best_parts, said_by, Part, Stretch, rules}
use Rattle.std.specs.Prelude.{MatchOption}
use Rattle.span_cover.specs.Best.{HasNoSample}
use Rattle.span_cover.specs.Gathering.{interval_between}
use Rattle.span_cover.proofs.BestSample.{AreBest, best_numbers}

module _ (samples : List Sample) (stretch : Stretch) (ppb server : ℕ) where
  said_by_best : (best : Option (ℕ × ℕ)) → MatchOption best (HasNoSample samples server)
      (AreBest samples server stretch.begin stretch.end ppb)
      → (part : Part) → option_map (said_by server) (option_and_then
      (λ b. interval_between (slice_get samples b.0) (slice_get samples b.1) stretch.begin stretch.end ppb) best)
      ≡ Some part
      → IsOfSamples samples stretch ppb part
  said_by_best None none part e = absurd cc
  said_by_best (Some best) are part e = search rules

  pub best_part_is : (part : Part) → best_part samples stretch ppb server ≡ Some part
      → IsOfSamples samples stretch ppb part
  best_part_is part e =
      said_by_best _ (best_numbers samples server stretch.begin stretch.end ppb) part e

given_all : {X Y : Type 0} (f : X → Option Y) (P : Y → Type 0) (xs : List X)
    → ((x : X) (y : Y) → f x ≡ Some y → P y) → All P (filter_map f xs)
given_all f P [] each = All-nil P
given_all f P (x ∷ xs) each = All-cons_option P (f x) (filter_map f xs) (each x) (given_all f P xs each)

pub best_parts_are : (claim : ClaimData) (samples : List Sample) (stretch : Stretch)
    → All (IsOfSamples samples stretch claim.drift_ppb) (best_parts claim samples stretch)
best_parts_are claim samples stretch =
    given_all (best_part samples stretch claim.drift_ppb) (IsOfSamples samples stretch claim.drift_ppb)
    (numbers_below (length claim.servers))
    (λ server part is. best_part_is samples stretch claim.drift_ppb server part is)
