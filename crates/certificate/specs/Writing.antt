-- The text that writes a certificate: compact, with the names of an object in the order of their
-- bytes and numbers in decimal.
use Rattle.std.specs.Prelude.{ℕ, List, [], ◌∷◌, ◌++◌, map, codes, decimal, nat_lt, if◌then◌else◌}
use Rattle.certificate.specs.Common.{join_with_byte, Data, unsigned, number, array, object, item, no_items, member, no_members, items_of}
use Rattle.certificate.specs.Certificate.{CertificateData, PieceData}

-- the byte of a comma
abbrev pub comma : ℕ
comma = 44

-- the comma before the element of this index, unless it is the first
abbrev pub comma_before : ℕ → List ℕ
comma_before index = if nat_lt 0 index then comma ∷ [] else []

abbrev pub entry_text : ℕ × ℕ → List ℕ
entry_text (low, high) = codes "[" ++ decimal low ++ codes "," ++ decimal high ++ codes "]"

abbrev pub piece_text : PieceData → List ℕ
piece_text piece =
    codes "{\"entries\":[" ++ join_with_byte comma (map entry_text piece.entries)
    ++ codes "],\"upto\":" ++ decimal piece.upto ++ codes "}"

abbrev pub certificate_text : CertificateData → List ℕ
certificate_text certificate =
    codes "{\"pieces\":[" ++ join_with_byte comma (map piece_text certificate.pieces) ++ codes "]}"

-- the same as a JSON value
abbrev pub number_value : ℕ → Data
number_value n = number (unsigned n)

abbrev pub entry_value : ℕ × ℕ → Data
entry_value (low, high) = array (item (number_value low) (item (number_value high) no_items))

abbrev pub piece_value : PieceData → Data
piece_value piece =
    object (member (codes "entries") (array (items_of (map entry_value piece.entries)))
    (member (codes "upto") (number_value piece.upto) no_members))

abbrev pub certificate_value : CertificateData → Data
certificate_value certificate =
    object (member (codes "pieces")
    (array (items_of (map piece_value certificate.pieces))) no_members)
