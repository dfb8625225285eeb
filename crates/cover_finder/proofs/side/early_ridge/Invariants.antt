use Rattle.cover_finder.specs.Ridge.{IsRidgeOf}
use Rattle.cover_finder.proofs.side.early_ridge.Given as goal

abbrev pub invariant-loop-one : goal.invariant-loop-one
invariant-loop-one l = IsRidgeOf l.drift l.rate l.marks 0 l.one-index l.ridge
