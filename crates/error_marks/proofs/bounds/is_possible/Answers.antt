use Rattle.error_marks.proofs.Bound.{possible, impossible}
use Rattle.error_marks.proofs.bounds.is_possible.Goals as goal

pub returns-then-x-allowance : goal.returns-then-x-allowance
returns-then-x-allowance c =
    possible c.args.x.now c.args.allowance c.requires.exchange c.requires.from_zero c.requires.at_most_a_second
    c.if-x-allowance.true

pub returns-else-x-allowance : goal.returns-else-x-allowance
returns-else-x-allowance c =
    impossible c.args.x.now c.args.allowance c.requires.exchange c.requires.from_zero c.requires.at_most_a_second
    c.if-x-allowance.false
