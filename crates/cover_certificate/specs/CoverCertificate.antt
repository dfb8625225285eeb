-- What a certificate by covers says.
--
-- It names conflicts: two exchanges of which one has a false server, by the low mark of the one and
-- the high mark of the other, or one exchange that is impossible by itself. So some groups hold a
-- false server, and for each way in which that may be there is a case. Its pieces go by the other
-- groups. Exchanges are numbered from 0 in the order of their replies.
use Rattle.std.specs.Prelude.{ℕ, ◌≤◌, List, length, map, sum_by}
use Rattle.certificate.specs.Certificate.{PieceData, piece_data, max_pieces}
use Rattle.cover_certificate.specs.declared.cover_certificate.Case.{Case}
use Rattle.cover_certificate.specs.declared.cover_certificate.CoverCertificate.{CoverCertificate}

-- the groups that hold a false server, and pieces that go by the others
pub record CaseData : Type 0 where
  pub groups : List ℕ
  pub pieces : List PieceData

pub record CoverCertificateData : Type 0 where
  pub conflicts : List (ℕ × ℕ)
  pub cases : List CaseData

-- what a value of the program says
abbrev pub case_data : Case → CaseData
case_data case = record { groups = case.groups.items; pieces = map piece_data case.pieces.items }

abbrev pub data_of : CoverCertificate → CoverCertificateData
data_of certificate = record {
  conflicts = certificate.conflicts.items;
  cases = map case_data certificate.cases.items;
}

-- the most cases, and the most conflicts: one for each of 32 groups and one for each two
abbrev pub max_cases : ℕ
max_cases = 64

abbrev pub max_conflicts : ℕ
max_conflicts = 528

-- how many pieces there are in all
abbrev pub piece_count : CoverCertificateData → ℕ
piece_count certificate = sum_by (λ case. length case.pieces) certificate.cases

-- few enough of each to be read
pub record IsFew (certificate : CoverCertificateData) : Type 0 where
  pub conflicts : length certificate.conflicts ≤ max_conflicts
  pub cases : length certificate.cases ≤ max_cases
  pub pieces : piece_count certificate ≤ max_pieces
