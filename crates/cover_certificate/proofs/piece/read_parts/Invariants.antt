use Rattle.cover_certificate.proofs.Common.{◌≡◌, length, Members, no_members, next_members, parts_data, parts_of}
use Rattle.cover_certificate.proofs.piece.read_parts.Given as goal

abbrev pub invariant-members : goal.invariant-members
invariant-members l =
    (found : Members)
    × (next_members l.depth no_members l.fn.reader ≡ next_members l.depth found l.reader)
    × (parts_data l.parts ≡ parts_of l.number found)

abbrev pub decreases-members : goal.decreases-members
decreases-members l = length l.reader
