use Rattle.certificate.proofs.Common.{◌≡◌, length, Members, no_members, next_members, whole_data, top_parts_of}
use Rattle.certificate.proofs.reading.read_whole.Given as goal

abbrev pub invariant-members : goal.invariant-members
invariant-members l =
    (found : Members)
    × (next_members l.depth no_members l.fn.reader ≡ next_members l.depth found l.reader)
    × (whole_data l.whole ≡ top_parts_of found)

abbrev pub decreases-members : goal.decreases-members
decreases-members l = length l.reader
