use Rattle.cover_certificate.proofs.Common.{◌≡◌, ◌≤◌, length, parse_map, next_items, entry_of, list_in}
use Rattle.cover_certificate.proofs.EntriesRead.{so_far, list_after}
use Rattle.cover_certificate.proofs.entry.read_pairs.Given as goal

abbrev pub invariant-entries : goal.invariant-entries
invariant-entries g l = record {
  read : parse_map (list_in l.many l.bad g.row.MOST entry_of) (next_items l.depth l.fn.reader)
      ≡ parse_map (list_after l.many l.bad g.row.MOST entry_of l.count (so_far l.are_pairs l.entries.items))
      (next_items l.depth l.reader);
  held : length l.entries.items ≤ l.count;
  few : l.count ≤ g.row.MOST;
}

abbrev pub decreases-entries : goal.decreases-entries
decreases-entries g l = length l.reader
