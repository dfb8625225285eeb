use Rattle.finder.proofs.Common.{◌≡◌, ◌≤◌, length, take, filter, holds, has_say}
use Rattle.finder.proofs.neediest.parts_without.Given as goal

abbrev pub invariant-loop-part : goal.invariant-loop-part
invariant-loop-part l = record {
  so_far : l.parts.items ≡ filter (has_say l.claim.groups.items (holds l.cover)) (take l.part-index l.all);
  fits : length l.parts.items ≤ l.part-index;
}
