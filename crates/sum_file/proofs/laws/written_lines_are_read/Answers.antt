use Rattle.sum_file.specs.Line.{written}
use Rattle.sum_file.proofs.Spelling.{line_of-Says}
use Rattle.sum_file.proofs.Written.{Says-written}
use Rattle.sum_file.proofs.laws.written_lines_are_read.Goals as goal

pub returns : goal.returns
returns c = record {
  read = λ mark sum marked writable. line_of-Says (written mark sum) sum (Says-written mark sum marked writable);
}
