-- The text that writes a certificate by covers: compact, with the names of an object in the order
-- of their bytes and numbers in decimal.
use Rattle.std.specs.Prelude.{ℕ, List, ◌++◌, map, codes, decimal}
use Rattle.cover_certificate.specs.Common.{join_with_byte, Data, array, object, member, no_members, items_of}
use Rattle.cover_certificate.specs.CoverCertificate.{CaseData, CoverCertificateData}
use Rattle.certificate.specs.Writing.{comma, entry_text, entry_value, number_value, piece_text, piece_value}

abbrev pub case_text : CaseData → List ℕ
case_text case =
    codes "{\"groups\":[" ++ join_with_byte comma (map decimal case.groups)
    ++ codes "],\"pieces\":[" ++ join_with_byte comma (map piece_text case.pieces) ++ codes "]}"

abbrev pub covers_text : CoverCertificateData → List ℕ
covers_text certificate =
    codes "{\"cases\":[" ++ join_with_byte comma (map case_text certificate.cases)
    ++ codes "],\"conflicts\":[" ++ join_with_byte comma (map entry_text certificate.conflicts)
    ++ codes "]}"

-- the same as a JSON value
abbrev pub case_value : CaseData → Data
case_value case =
    object (member (codes "groups") (array (items_of (map number_value case.groups)))
    (member (codes "pieces") (array (items_of (map piece_value case.pieces))) no_members))

abbrev pub covers_value : CoverCertificateData → Data
covers_value certificate =
    object (member (codes "cases") (array (items_of (map case_value certificate.cases)))
    (member (codes "conflicts") (array (items_of (map entry_value certificate.conflicts)))
    no_members))
