-- The numbers of a claim that keeps its limits, as 128 bits hold them.
use Rattle.checker.proofs.Common.{◌≡◌, to_z, of_z, w128, ClaimData, IsLawful, rules}

module _ (claim : ClaimData) (lawful : IsLawful claim) where
  pub first_kept : to_z w128 (of_z w128 claim.first) ≡ claim.first
  first_kept = search rules

  pub last_kept : to_z w128 (of_z w128 claim.last) ≡ claim.last
  last_kept = search rules

  pub bound_kept : to_z w128 (of_z w128 claim.bound) ≡ claim.bound
  bound_kept = search rules

  pub reading_kept : to_z w128 (of_z w128 claim.reading) ≡ claim.reading
  reading_kept = search rules
