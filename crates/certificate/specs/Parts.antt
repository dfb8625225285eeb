-- What the parts of a certificate's text say, each with the first fault that it has.
use Rattle.std.specs.Prelude.{◌≡◌, ℕ, List, [], ◌∷◌, ◌++◌, Bool, Option, option_map, option_and_then, Result, Ok, Err, codes, nat_le}
use Rattle.certificate.specs.Common.{Data, Items, Members, put, items_len, as_array, get_member, has_only, unsigned_of, given, asked, after}
use Rattle.certificate.specs.declared.fault.CertificateFault.{CertificateFault}
use Rattle.certificate.specs.declared.fault.CertificateFault.TheVariants.{Top, Shape, TooManyEntries, TooManyPieces}
use Rattle.certificate.specs.Certificate.{CertificateData, PieceData, max_pieces, max_entries}
use Rattle.certificate.specs.Reading.{entries_of, piece_of, pieces_from}

-- a value or its fault, as data
abbrev pub judged : {A B : Type 0} → (A → B) → Result A CertificateFault → Result B CertificateFault
judged shown (Ok value) = Ok (shown value)
judged shown (Err fault) = Err fault

-- what is known of the members of an object, if one more of this name is read
abbrev pub AddsMember : {A : Type 0} → (Members → A) → List ℕ → Data → A → A → Type 0
AddsMember known name value before now =
    (found : Members) → before ≡ known found → now ≡ known (put name value found)

-- ---- the entries of a piece

-- what the array of the piece with this number says
abbrev pub entries_in : ℕ → Items → Result (List (ℕ × ℕ)) CertificateFault
entries_in number items =
    asked (TooManyEntries number) (nat_le (items_len items) max_entries) (
    given (Shape number) (entries_of items) Ok)

-- ---- a piece

-- what the members of a piece say, as far as they're read: whether each name is known, the end, and
-- the entries
pub record PieceParts : Type 0 where
  pub is_known : Bool
  pub upto : Option ℕ
  pub entries : Option (Result (List (ℕ × ℕ)) CertificateFault)

abbrev pub parts_of : ℕ → Members → PieceParts
parts_of number members = record {
  is_known = has_only (codes "entries" ∷ codes "upto" ∷ []) members;
  upto = option_and_then unsigned_of (get_member (codes "upto") members);
  entries = option_map (entries_in number)
      (option_and_then as_array (get_member (codes "entries") members));
}

-- the piece of these parts
abbrev pub piece_from : ℕ → PieceParts → Result PieceData CertificateFault
piece_from number parts =
    asked (Shape number) parts.is_known (
    given (Shape number) parts.upto λ upto.
    given (Shape number) parts.entries λ read.
    after read λ entries.
    Ok (record { entries = entries; upto = upto }))

-- ---- the pieces

-- what the array of pieces says
abbrev pub pieces_in : Items → Result (List PieceData) CertificateFault
pieces_in items = asked TooManyPieces (nat_le (items_len items) max_pieces) (pieces_from 0 items)

-- the pieces before, and the one with this number
abbrev pub pieces_and : ℕ → Result (List PieceData) CertificateFault → Data →
    Result (List PieceData) CertificateFault
pieces_and number found value =
    after found λ pieces.
    after (piece_of number value) λ piece.
    Ok (pieces ++ piece ∷ [])

-- ---- the whole

-- what the members of the whole say, as far as they're read
pub record TopParts : Type 0 where
  pub is_known : Bool
  pub pieces : Option (Result (List PieceData) CertificateFault)

abbrev pub top_parts_of : Members → TopParts
top_parts_of members = record {
  is_known = has_only (codes "pieces" ∷ []) members;
  pieces = option_map pieces_in (option_and_then as_array (get_member (codes "pieces") members));
}

abbrev pub certificate_of_parts : TopParts → Result CertificateData CertificateFault
certificate_of_parts parts =
    asked Top parts.is_known (
    given Top parts.pieces λ read.
    after read λ pieces.
    Ok (record { pieces = pieces }))
