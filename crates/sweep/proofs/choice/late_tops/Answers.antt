use Rattle.sweep.proofs.Mirror.{lawful-mirrored_stretches, MiddlesRise-mirrored}
use Rattle.sweep.proofs.choice.late_tops.Goals as goal

pub early_tops-requires-clause-stretches : goal.early_tops-requires-clause-stretches
early_tops-requires-clause-stretches c =
    rw (c.as_slice.ensures.value, c.in_ok-stretches.ensures)
    (lawful-mirrored_stretches c.args.stretches.now c.requires.stretches)

pub early_tops-requires-clause-in_order : goal.early_tops-requires-clause-in_order
early_tops-requires-clause-in_order c =
    rw (c.as_slice.ensures.value, c.in_ok-stretches.ensures)
    (MiddlesRise-mirrored c.args.stretches.now c.requires.stretches c.requires.in_order)

pub returns : goal.returns
returns c = rw (c.as_slice.ensures.value, c.in_ok-stretches.ensures) at c.early_tops.ensures
