use Rattle.sum_file.proofs.Refusals.{sums_of-is, sums_of-never_Memory, sums_of-refused}
use Rattle.sum_file.proofs.laws.first_bad_lines_are_reported.Goals as goal

pub returns : goal.returns
returns c = record { good = sums_of-is; bad = sums_of-refused; nothing_else = sums_of-never_Memory }
