-- The hull of what exchanges say over a stretch, in a course that fits them all.
use Rattle.cover_checker.proofs.Common.{ℕ, ◌-◌, ◌∙◌, Bool, List, length, get_or, All, ClaimData, Exchange, IsHull, IsLawful, IsLawfulExchange, Part, Stretch, group_intervals, size_of}
use Rattle.std.specs.Prelude.{⊤}
use Rattle.intersection.specs.declared.kinds.Hull.{Hull}
use Rattle.feasibility.proofs.Covers.{listed_in_groups}
use Rattle.cover_checker.specs.Hull.{HasFalse, HoldsErrorOf, IsSaidBySome}
use Rattle.cover_checker.proofs.Named.{fits_named, wrong_is}
use Rattle.cover_checker.proofs.Pieces.{held, holds, listed}
use Rattle.cover_checker.proofs.Stretches.{HasCeilings}

module _ (ceilings : HasCeilings) (claim : ClaimData) (xs : List Exchange) (lawful : IsLawful claim)
    (each : All (IsLawfulExchange (length claim.servers)) xs) where
  pub hull_holds : (out : ℕ → Bool) (stretch : Stretch) (parts : List Part) (hull : Hull)
      → All (IsSaidBySome claim xs out stretch) parts
      → IsHull (group_intervals claim.groups parts) (claim.false_max - size_of claim out) hull
      → HoldsErrorOf claim xs stretch (HasFalse claim out) hull
  hull_holds out stretch parts hull said is course fits false' observed =
      let listed_all = listed_in_groups claim xs lawful each in
      let fits_all = fits_named claim xs (λ k. ⊤) course lawful.drift_in_range listed_all fits in
      held ceilings claim lawful xs each course fits_all out stretch observed parts
      (λ group is. wrong_is claim xs (λ k. ⊤) course lawful.drift_in_range listed_all fits group ∙ false' group is)
      (λ k d below. listed ceilings claim lawful xs each course fits_all out stretch observed (said k d below).0
      (get_or parts k d) (said k d below).1 tt tt)
      (λ k d below. holds ceilings claim lawful xs each course fits_all out stretch observed (said k d below).0
      (get_or parts k d) (said k d below).1 tt tt)
      hull is
