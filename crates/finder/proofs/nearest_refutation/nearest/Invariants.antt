use Rattle.claim_file.specs.Claim.{data_of as claim_data}
use Rattle.finder.proofs.Nearest.{SoFar}
use Rattle.finder.proofs.nearest_refutation.nearest.Given as goal

abbrev pub invariant-loop-server : goal.invariant-loop-server
invariant-loop-server l = SoFar l.side l.rooms (claim_data l.claim) l.limit l.server l.first
