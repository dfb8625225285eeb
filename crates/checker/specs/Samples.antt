-- The samples of a claim.
use Rattle.std.specs.Prelude.{◌<◌, List, length, All}
use Rattle.checker.specs.Common.{ClaimData, IsLawfulSample, Sample}

-- each keeps its limits, and is of a server that the claim lists
pub record AreSamplesOf (claim : ClaimData) (samples : List Sample) : Type 0 where
  pub lawful : All IsLawfulSample samples
  pub listed : All (λ sample. sample.server < length claim.servers) samples
