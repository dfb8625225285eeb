use Rattle.finder.proofs.Common.{holds, IsNarrowed}
use Rattle.finder.proofs.leeway.false_groups.Given as goal

abbrev pub invariant-loop-added : goal.invariant-loop-added
invariant-loop-added l = IsNarrowed l.leeways l._added (holds l.fn.cover) (holds l.found)
