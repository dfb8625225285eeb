use Rattle.json_text.proofs.Common.{◌≡◌, ◌+◌, ◌*◌, ◌≤◌, length, Members, no_members, next_items, next_members, rest_after}
use Rattle.json_text.proofs.next.+pass.Given as goal

abbrev pub decreases-pass_value : goal.decreases-pass_value
decreases-pass_value l = 2 * l.depth

abbrev pub decreases-pass_items : goal.decreases-pass_items
decreases-pass_items l = 2 * l.depth + 1

abbrev pub decreases-pass_members : goal.decreases-pass_members
decreases-pass_members l = 2 * l.depth + 1

abbrev pub invariant-pass_items-items : goal.invariant-pass_items-items
invariant-pass_items-items l = record {
  left : rest_after (next_items l.depth l.initial.reader) ≡ rest_after (next_items l.depth l.reader);
  within : length l.reader ≤ length l.initial.reader;
}

abbrev pub decreases-pass_items-items : goal.decreases-pass_items-items
decreases-pass_items-items l = length l.reader

abbrev pub invariant-pass_members-members : goal.invariant-pass_members-members
invariant-pass_members-members l =
    (found : Members)
    × (next_members l.depth no_members l.initial.reader ≡ next_members l.depth found l.reader)
    × (length l.reader ≤ length l.initial.reader)

abbrev pub decreases-pass_members-members : goal.decreases-pass_members-members
decreases-pass_members-members l = length l.reader
