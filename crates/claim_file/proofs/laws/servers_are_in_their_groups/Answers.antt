use Rattle.claim_file.proofs.Groupings.{groups_of-range, in_group}
use Rattle.claim_file.proofs.laws.servers_are_in_their_groups.Goals as goal

pub returns : goal.returns
returns c = record {
  count = λ n listed groups some e. (groups_of-range n listed groups some e).0;
  number = in_group;
}
