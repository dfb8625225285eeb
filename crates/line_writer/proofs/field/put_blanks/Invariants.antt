use Rattle.line_writer.proofs.Common.{◌≡◌, ◌++◌, replicate}
use Rattle.line_writer.proofs.field.put_blanks.Given as goal

abbrev pub invariant-loop-done : goal.invariant-loop-done
invariant-loop-done l = l.line ≡ replicate l._done 32 ++ l.initial.line
