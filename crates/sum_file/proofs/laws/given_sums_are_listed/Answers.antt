use Rattle.sum_file.proofs.ListedDigest.{sum_given-is}
use Rattle.sum_file.proofs.laws.given_sums_are_listed.Goals as goal

pub returns : goal.returns
returns c = record { listed = sum_given-is }
