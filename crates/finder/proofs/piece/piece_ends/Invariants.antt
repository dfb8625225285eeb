use Rattle.finder.proofs.Common.{◌≡◌, ends_of}
use Rattle.finder.proofs.piece.piece_ends.Given as goal

abbrev pub invariant-loop-number : goal.invariant-loop-number
invariant-loop-number l = l.ends.items ≡ ends_of l.first l.last l.step_s l.number
