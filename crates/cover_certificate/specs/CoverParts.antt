-- A certificate by covers as it's read, member by member: what the members that were read say, and
-- the case or certificate of them.
use Rattle.std.specs.Prelude.{ℕ, List, [], ◌∷◌, Bool, Option, option_map, option_and_then, Result, Ok, codes, map, Vec}
use Rattle.std.specs.Global.{Global}
use Rattle.cover_certificate.specs.Common.{Members, as_array, get_member, given, asked, after, has_only}
use Rattle.cover_certificate.specs.declared.fault.CoverFault.{CoverFault}
use Rattle.cover_certificate.specs.declared.fault.CoverFault.TheVariants.{Top, CaseShape}
use Rattle.cover_certificate.specs.declared.case.CaseParts as case
use Rattle.cover_certificate.specs.declared.cover_certificate.Case.{Case}
use Rattle.cover_certificate.specs.declared.reading.Covers as covers
use Rattle.certificate.specs.Certificate.{PieceData}
use Rattle.cover_certificate.specs.CoverCertificate.{CaseData, CoverCertificateData, case_data}
use Rattle.cover_certificate.specs.CoverReading.{cases_from, conflicts_in, groups_in}
use Rattle.cover_certificate.specs.Parts.{judged, pieces_in}
use Rattle.cover_certificate.specs.PartsData.{pieces_data}

-- ---- a case

-- what the members of a case say, as far as they're read
pub record CaseParts : Type 0 where
  pub is_known : Bool
  pub groups : Option (Result (List ℕ) CoverFault)
  pub pieces : Option (Result (List PieceData) CoverFault)

abbrev pub case_parts_of : ℕ → ℕ → Members → CaseParts
case_parts_of number first members = record {
  is_known = has_only (codes "groups" ∷ codes "pieces" ∷ []) members;
  groups = option_map (groups_in number)
      (option_and_then as_array (get_member (codes "groups") members));
  pieces = option_map (pieces_in first)
      (option_and_then as_array (get_member (codes "pieces") members));
}

-- the case of these parts
abbrev pub case_of_parts : ℕ → CaseParts → Result CaseData CoverFault
case_of_parts number parts =
    asked (CaseShape number) parts.is_known (
    given (CaseShape number) parts.groups λ groups.
    given (CaseShape number) parts.pieces λ pieces.
    after groups λ named.
    after pieces λ found.
    Ok (record { groups = named; pieces = found }))

-- ---- the whole

pub record CoversParts : Type 0 where
  pub is_known : Bool
  pub conflicts : Option (Result (List (ℕ × ℕ)) CoverFault)
  pub cases : Option (Result (List CaseData) CoverFault)

abbrev pub covers_parts_of : Members → CoversParts
covers_parts_of members = record {
  is_known = has_only (codes "cases" ∷ codes "conflicts" ∷ []) members;
  conflicts = option_map conflicts_in
      (option_and_then as_array (get_member (codes "conflicts") members));
  cases = option_map (cases_from [])
      (option_and_then as_array (get_member (codes "cases") members));
}

abbrev pub covers_of_parts : CoversParts → Result CoverCertificateData CoverFault
covers_of_parts parts =
    asked Top parts.is_known (
    given Top parts.conflicts λ conflicts.
    given Top parts.cases λ cases.
    after conflicts λ pairs.
    after cases λ found.
    Ok (record { conflicts = pairs; cases = found }))

-- ---- what the program holds of them

abbrev pub case_parts_data : case.CaseParts → CaseParts
case_parts_data parts = record {
  is_known = parts.is_known;
  groups = option_map (judged (λ groups. groups.items)) parts.groups;
  pieces = option_map (judged pieces_data) parts.pieces;
}

abbrev pub cases_data : Vec Case Global → List CaseData
cases_data cases = map case_data cases.items

abbrev pub covers_parts_data : covers.Covers → CoversParts
covers_parts_data parts = record {
  is_known = parts.is_known;
  conflicts = option_map (judged (λ conflicts. conflicts.items)) parts.conflicts;
  cases = option_map (judged cases_data) parts.cases;
}
