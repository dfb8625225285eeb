use Rattle.std.proofs.Common.{◌∙◌, sym}
use Rattle.span_cover.proofs.OwnGroup.{group_interval-own}
use Rattle.span_cover.proofs.group.group_interval.Goals as goal

pub returns-then-own : goal.returns-then-own
returns-then-own c =
    c.interval_at.ensures
    ∙ sym (group_interval-own c.args.groups.now c.args.parts.now c.args.group (c.requires.own c.if-own.true))
