-- What the text of a certificate by covers says: it, or the first fault that it has.
--
-- `{"cases":[{"groups":[g,..],"pieces":[..]},..],"conflicts":[[i,j],..]}`, with blanks and the
-- names in any order, and pieces as a certificate has them. Conflicts are looked at before any
-- case, and the cases in order. Pieces are counted through all cases.
use Rattle.std.specs.Prelude.{ℕ, ◌<◌, ◌≤◌, ◌++◌, ◌^◌, All, List, [], ◌∷◌, length, sum_by, Option, Some, None, option_and_then, Result, Ok, codes, nat_lt, if◌then◌else◌}
use Rattle.cover_certificate.specs.Common.{Data, Items, no_items, item, members_among, items_at, unsigned_of, given, asked, after, parsed}
use Rattle.cover_certificate.specs.declared.fault.CoverFault.{CoverFault}
use Rattle.cover_certificate.specs.declared.fault.CoverFault.TheVariants.{Json, Top, TooManyConflicts, Conflicts, TooManyCases, CaseShape}
use Rattle.certificate.specs.Certificate.{IsHeld, NamesSamples}
use Rattle.cover_certificate.specs.CoverCertificate.{CaseData, CoverCertificateData, max_cases, max_conflicts}
use Rattle.certificate.specs.Reading.{entry_of}
use Rattle.cover_certificate.specs.Parts.{list_in, pieces_in}

-- the number of a group
abbrev pub group_of : Data → Option ℕ
group_of value = option_and_then (λ n. if nat_lt n (2 ^ 8) then Some n else None)
    (unsigned_of value)

-- the most groups of a case
abbrev pub max_groups : ℕ
max_groups = 32

-- the groups of the case with this number
abbrev pub groups_in : ℕ → Items → Result (List ℕ) CoverFault
groups_in number items = list_in (CaseShape number) (CaseShape number) max_groups group_of items

-- the pieces of these cases
abbrev pub pieces_of : List CaseData → ℕ
pieces_of cases = sum_by (λ case. length case.pieces) cases

-- the case with this number, whose pieces are counted from the second one on: an object of exactly
-- these names
abbrev pub case_of : ℕ → ℕ → Data → Result CaseData CoverFault
case_of number first value =
    given (CaseShape number) (members_among (codes "groups" ∷ codes "pieces" ∷ []) value) λ members.
    given (CaseShape number) (items_at (codes "groups") value) λ groups.
    given (CaseShape number) (items_at (codes "pieces") value) λ pieces.
    after (groups_in number groups) λ named.
    after (pieces_in first pieces) λ found.
    Ok (record { groups = named; pieces = found })

-- these cases, and those that are left
abbrev pub cases_from : List CaseData → Items → Result (List CaseData) CoverFault
cases_from before no_items = Ok before
cases_from before (item value rest) =
    asked TooManyCases (nat_lt (length before) max_cases) (
    after (case_of (length before) (pieces_of before) value) λ case.
    cases_from (before ++ case ∷ []) rest)

-- what an array of conflicts says
abbrev pub conflicts_in : Items → Result (List (ℕ × ℕ)) CoverFault
conflicts_in items = list_in TooManyConflicts Conflicts max_conflicts entry_of items

-- what a JSON value says: an object of exactly these names
abbrev pub covers_from : Data → Result CoverCertificateData CoverFault
covers_from value =
    given Top (members_among (codes "cases" ∷ codes "conflicts" ∷ []) value) λ members.
    given Top (items_at (codes "conflicts") value) λ conflicts.
    given Top (items_at (codes "cases") value) λ cases.
    after (conflicts_in conflicts) λ pairs.
    after (cases_from [] cases) λ found.
    Ok (record { conflicts = pairs; cases = found })

-- what the bytes of a certificate by covers say
abbrev pub covers_of : List ℕ → Result CoverCertificateData CoverFault
covers_of bytes = given Json (parsed bytes) covers_from

-- a case as a program holds it: few groups, by numbers of 8 bits, and pieces that it holds
pub record IsHeldCase (case : CaseData) : Type 0 where
  pub few : length case.groups ≤ max_groups
  pub named : All (λ group. group < 2 ^ 8) case.groups
  pub pieces : All IsHeld case.pieces

-- a certificate by covers as a program holds it
pub record IsHeldCovers (certificate : CoverCertificateData) : Type 0 where
  pub conflicts : All NamesSamples certificate.conflicts
  pub cases : All IsHeldCase certificate.cases
