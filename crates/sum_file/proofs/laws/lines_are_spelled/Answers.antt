use Rattle.sum_file.proofs.Spelling.{Says-from_line_of, line_of-Says}
use Rattle.sum_file.proofs.laws.lines_are_spelled.Goals as goal

pub returns : goal.returns
returns c = record { spelled = λ line sum. (Says-from_line_of line sum, line_of-Says line sum) }
