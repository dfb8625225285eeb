-- What the parts of a certificate's text say, each with the first fault that it has.
use Rattle.std.specs.Prelude.{◌≡◌, ℕ, ◌+◌, List, [], ◌∷◌, ◌++◌, Bool, Option, option_map, option_and_then, Result, Ok, Err, codes, nat_le}
use Rattle.cover_certificate.specs.Common.{Data, Items, Members, put, items_len, as_array, get_member, has_only, unsigned_of, given, asked, after}
use Rattle.cover_certificate.specs.declared.fault.CoverFault.{CoverFault}
use Rattle.cover_certificate.specs.declared.fault.CoverFault.TheVariants.{Shape, TooManyEntries, TooManyPieces}
use Rattle.certificate.specs.Certificate.{PieceData, max_pieces, max_entries}
use Rattle.certificate.specs.Reading.{entry_of}
use Rattle.cover_certificate.specs.PieceReading.{each_of, piece_of, pieces_from}

-- a value or its fault, as data
abbrev pub judged : {A B : Type 0} → (A → B) → Result A CoverFault → Result B CoverFault
judged shown (Ok value) = Ok (shown value)
judged shown (Err fault) = Err fault

-- what is known of the members of an object, if one more of this name is read
abbrev pub AddsMember : {A : Type 0} → (Members → A) → List ℕ → Data → A → A → Type 0
AddsMember known name value before now =
    (found : Members) → before ≡ known found → now ≡ known (put name value found)

-- what an array says of at most so many elements, with the fault if there are more, and the one if
-- an element is none
abbrev pub list_in : {X : Type 0} → CoverFault → CoverFault → ℕ → (Data → Option X) →
    Items → Result (List X) CoverFault
list_in many bad most element_of items =
    asked many (nat_le (items_len items) most) (given bad (each_of element_of items) Ok)

-- ---- the entries of a piece

-- what the array of the piece with this number says
abbrev pub entries_in : ℕ → Items → Result (List (ℕ × ℕ)) CoverFault
entries_in number items =
    list_in (TooManyEntries number) (Shape number) max_entries entry_of items

-- ---- a piece

-- what the members of a piece say, as far as they're read: whether each name is known, the end, and
-- the entries
pub record PieceParts : Type 0 where
  pub is_known : Bool
  pub upto : Option ℕ
  pub entries : Option (Result (List (ℕ × ℕ)) CoverFault)

abbrev pub parts_of : ℕ → Members → PieceParts
parts_of number members = record {
  is_known = has_only (codes "entries" ∷ codes "upto" ∷ []) members;
  upto = option_and_then unsigned_of (get_member (codes "upto") members);
  entries = option_map (entries_in number)
      (option_and_then as_array (get_member (codes "entries") members));
}

-- the piece of these parts
abbrev pub piece_from : ℕ → PieceParts → Result PieceData CoverFault
piece_from number parts =
    asked (Shape number) parts.is_known (
    given (Shape number) parts.upto λ upto.
    given (Shape number) parts.entries λ read.
    after read λ entries.
    Ok (record { entries = entries; upto = upto }))

-- ---- the pieces

-- what the array of pieces says, which are counted from this number on
abbrev pub pieces_in : ℕ → Items → Result (List PieceData) CoverFault
pieces_in first items =
    asked TooManyPieces (nat_le (first + items_len items) max_pieces) (pieces_from first items)

-- the pieces before, and the one with this number
abbrev pub pieces_and : ℕ → Result (List PieceData) CoverFault → Data →
    Result (List PieceData) CoverFault
pieces_and number found value =
    after found λ pieces.
    after (piece_of number value) λ piece.
    Ok (pieces ++ piece ∷ [])
