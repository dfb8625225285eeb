use Rattle.claim_file.proofs.Common.{ltb-true, AllPass-from_list_all, nat_lt, concat}
use Rattle.claim_file.proofs.Groupings.{given_grouping, grouping_parts, group_number, group_count-listed}
use Rattle.claim_file.proofs.laws.groups_hold_each_server_once.Goals as goal

pub returns : goal.returns
returns c = record {
  once = λ n listed groups e. (grouping_parts n listed (given_grouping n listed groups e).0).once;
  no_other = λ n listed groups e k d less.
      ltb-true _ n (AllPass-from_list_all (λ s. nat_lt s n) (concat listed)
      (grouping_parts n listed (given_grouping n listed groups e).0).below k d less);
  number = group_number;
  count = group_count-listed;
}
