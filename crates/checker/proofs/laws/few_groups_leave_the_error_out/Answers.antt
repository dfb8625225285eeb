use Rattle.checker.proofs.Counting.{few_leave_it_out}
use Rattle.checker.proofs.laws.few_groups_leave_the_error_out.Goals as goal

pub returns : goal.returns
returns c groups parts is_false e n f listed hold few = few_leave_it_out groups parts is_false e n listed hold f few
