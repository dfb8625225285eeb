-- The members of a case, and of a certificate by covers, read one after another.
use Rattle.std.proofs.lemmas.Int.{ints}
use Rattle.cover_certificate.proofs.Common.{◌≡◌, ℕ, List, [], Bool, true, false, Option, Some, None, option_map, if◌then◌else◌, Result, Ok, refl, codes, get_member-put, get_member-put_other, Data, Items, Members, put, object, as_array, given, after, CoverFault, PieceData, pieces_in, arith, nat_tests, CaseData, CaseParts, CoversParts, case_of, case_of_parts, case_parts_of, cases_from, conflicts_in, covers_from, covers_of_parts, covers_parts_of, groups_in, CaseShape, Top}
use Rattle.certificate.proofs.PartsRead.{has_only-put, not_same}

-- ---- a case

abbrev pub case_made : Bool → Option (Result (List ℕ) CoverFault) →
    Option (Result (List PieceData) CoverFault) → CaseParts
case_made is_known groups pieces = record { is_known = is_known; groups = groups; pieces = pieces }

module _ (number first : ℕ) (value : Data) (found : Members) (parts : CaseParts)
    (known : parts ≡ case_parts_of number first found) where
  pub case_groups : (read : Option (Result (List ℕ) CoverFault)) →
      option_map (groups_in number) (as_array value) ≡ read →
      case_made parts.is_known read parts.pieces ≡ case_parts_of number first (put (codes "groups") value found)
  case_groups read is =
      grind (arith, ints, nat_tests, get_member-put_other, value, found, get_member-put, known, has_only-put)

  pub case_pieces : (read : Option (Result (List PieceData) CoverFault)) →
      option_map (pieces_in first) (as_array value) ≡ read →
      case_made parts.is_known parts.groups read ≡ case_parts_of number first (put (codes "pieces") value found)
  case_pieces read is =
      grind (arith, ints, nat_tests, get_member-put_other, value, found, get_member-put, known, has_only-put)

  pub case_other : (name : List ℕ) → (name ≡ codes "groups" → ⊥) → (name ≡ codes "pieces" → ⊥) →
      case_made false parts.groups parts.pieces ≡ case_parts_of number first (put name value found)
  case_other name no_groups no_pieces =
      grind (arith, ints, nat_tests, get_member-put_other, value, found, not_same, known, has_only-put)

same_case : (number first : ℕ) (ms : Members) (is_known : Bool) (groups pieces : Option Items) →
    case_of_parts number
    (case_made is_known (option_map (groups_in number) groups) (option_map (pieces_in first) pieces))
    ≡ (given (CaseShape number) (if is_known then Some ms else None) λ members.
    given (CaseShape number) groups λ groups.
    given (CaseShape number) pieces λ pieces.
    after (groups_in number groups) λ named.
    after (pieces_in first pieces) λ found.
    Ok (record { groups = named; pieces = found }))
same_case number first ms false groups pieces = refl
same_case number first ms true None pieces = refl
same_case number first ms true (Some groups) None = refl
same_case number first ms true (Some groups) (Some pieces) = refl

-- the case of an object is that of its parts
pub case_of-parts : (number first : ℕ) (members : Members) →
    case_of_parts number (case_parts_of number first members) ≡ case_of number first (object members)
case_of-parts number first members = grind (arith, ints, nat_tests, same_case)

-- ---- the whole

abbrev pub covers_made : Bool → Option (Result (List (ℕ × ℕ)) CoverFault) →
    Option (Result (List CaseData) CoverFault) → CoversParts
covers_made is_known conflicts cases = record { is_known = is_known; conflicts = conflicts; cases = cases }

module _ (value : Data) (found : Members) (parts : CoversParts) (known : parts ≡ covers_parts_of found) where
  pub covers_cases : (read : Option (Result (List CaseData) CoverFault)) →
      option_map (cases_from []) (as_array value) ≡ read →
      covers_made parts.is_known parts.conflicts read ≡ covers_parts_of (put (codes "cases") value found)
  covers_cases read is =
      grind (arith, ints, nat_tests, get_member-put_other, value, found, get_member-put, known, has_only-put)

  pub covers_conflicts : (read : Option (Result (List (ℕ × ℕ)) CoverFault)) →
      option_map conflicts_in (as_array value) ≡ read →
      covers_made parts.is_known read parts.cases ≡ covers_parts_of (put (codes "conflicts") value found)
  covers_conflicts read is =
      grind (arith, ints, nat_tests, get_member-put_other, value, found, get_member-put, known, has_only-put)

  pub covers_other : (name : List ℕ) → (name ≡ codes "cases" → ⊥) → (name ≡ codes "conflicts" → ⊥) →
      covers_made false parts.conflicts parts.cases ≡ covers_parts_of (put name value found)
  covers_other name no_cases no_conflicts =
      grind (arith, ints, nat_tests, get_member-put_other, value, found, not_same, known, has_only-put)

same_covers : (ms : Members) (is_known : Bool) (conflicts cases : Option Items) →
    covers_of_parts (covers_made is_known (option_map conflicts_in conflicts) (option_map (cases_from []) cases))
    ≡ (given Top (if is_known then Some ms else None) λ members.
    given Top conflicts λ conflicts.
    given Top cases λ cases.
    after (conflicts_in conflicts) λ pairs.
    after (cases_from [] cases) λ found.
    Ok (record { conflicts = pairs; cases = found }))
same_covers ms false conflicts cases = refl
same_covers ms true None cases = refl
same_covers ms true (Some conflicts) None = refl
same_covers ms true (Some conflicts) (Some cases) = refl

-- the certificate of an object is that of its parts
pub covers_of-parts : (members : Members) →
    covers_of_parts (covers_parts_of members) ≡ covers_from (object members)
covers_of-parts members = grind (arith, ints, nat_tests, same_covers)
