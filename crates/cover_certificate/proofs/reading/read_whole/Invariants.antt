use Rattle.cover_certificate.proofs.Common.{◌≡◌, length, Members, no_members, next_members, covers_parts_data, covers_parts_of}
use Rattle.cover_certificate.proofs.reading.read_whole.Given as goal

abbrev pub invariant-members : goal.invariant-members
invariant-members l =
    (found : Members)
    × (next_members l.depth no_members l.fn.reader ≡ next_members l.depth found l.reader)
    × (covers_parts_data l.whole ≡ covers_parts_of found)

abbrev pub decreases-members : goal.decreases-members
decreases-members l = length l.reader
