use Rattle.span_cover.proofs.Common.{◌≡◌, take, group_interval}
use Rattle.span_cover.proofs.group.group_interval.Given as goal

abbrev pub invariant-loop-part : goal.invariant-loop-part
invariant-loop-part l = l.common ≡ group_interval l.groups (take l.part-index l.parts) l.group
