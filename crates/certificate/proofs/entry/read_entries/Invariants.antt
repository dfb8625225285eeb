use Rattle.certificate.proofs.Common.{◌≡◌, ◌≤◌, length, parse_map, next_items, max_entries, entries_in}
use Rattle.certificate.proofs.EntriesRead.{so_far, entries_after}
use Rattle.certificate.proofs.entry.read_entries.Given as goal

abbrev pub invariant-entries : goal.invariant-entries
invariant-entries l = record {
  read : parse_map (entries_in l.number) (next_items l.depth l.fn.reader)
      ≡ parse_map (entries_after l.number l.count (so_far l.are_pairs l.entries.items)) (next_items l.depth l.reader);
  held : length l.entries.items ≤ l.count;
  few : l.count ≤ max_entries;
}

abbrev pub decreases-entries : goal.decreases-entries
decreases-entries l = length l.reader
