use Rattle.cover_certificate.proofs.Common.{◌≡◌, ◌≤◌, length, parse_map, next_items, group_of, list_in, max_groups}
use Rattle.cover_certificate.proofs.EntriesRead.{so_far, list_after}
use Rattle.cover_certificate.proofs.groups.read_groups.Given as goal

abbrev pub invariant-groups : goal.invariant-groups
invariant-groups l = record {
  read : parse_map (list_in l.bad l.bad max_groups group_of) (next_items l.depth l.fn.reader)
      ≡ parse_map (list_after l.bad l.bad max_groups group_of l.count (so_far l.are_groups l.groups.items))
      (next_items l.depth l.reader);
  held : length l.groups.items ≤ l.count;
  few : l.count ≤ max_groups;
}

abbrev pub decreases-groups : goal.decreases-groups
decreases-groups l = length l.reader
