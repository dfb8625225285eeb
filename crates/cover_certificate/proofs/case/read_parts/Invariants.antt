use Rattle.cover_certificate.proofs.Common.{◌≡◌, length, Members, no_members, next_members, case_parts_data, case_parts_of}
use Rattle.cover_certificate.proofs.case.read_parts.Given as goal

abbrev pub invariant-members : goal.invariant-members
invariant-members l =
    (found : Members)
    × (next_members l.depth no_members l.fn.reader ≡ next_members l.depth found l.reader)
    × (case_parts_data l.parts ≡ case_parts_of l.number l.first found)

abbrev pub decreases-members : goal.decreases-members
decreases-members l = length l.reader
