-- What the pieces of a case say, or the first fault that they have.
--
-- `[{"entries":[[i,j],..],"upto":n},..]`, with blanks and the names in any order. The pieces are
-- looked at in order.
use Rattle.std.specs.Prelude.{ℕ, ◌+◌, List, [], ◌∷◌, Option, Some, option_map, option_and_then, Result, Ok, codes, nat_le}
use Rattle.cover_certificate.specs.Common.{Data, Items, no_items, item, items_len, members_among, items_at, unsigned_at, given, asked, after}
use Rattle.cover_certificate.specs.declared.fault.CoverFault.{CoverFault}
use Rattle.cover_certificate.specs.declared.fault.CoverFault.TheVariants.{Shape, TooManyEntries}
use Rattle.certificate.specs.Certificate.{PieceData, max_entries}
use Rattle.certificate.specs.Reading.{entry_of}

-- what each element says
abbrev pub each_of : {X : Type 0} → (Data → Option X) → Items → Option (List X)
each_of element_of no_items = Some []
each_of element_of (item value rest) =
    option_and_then (λ first. option_map (λ others. first ∷ others) (each_of element_of rest))
    (element_of value)

abbrev pub entries_of : Items → Option (List (ℕ × ℕ))
entries_of items = each_of entry_of items

-- the piece with this number: an object of exactly these names
abbrev pub piece_of : ℕ → Data → Result PieceData CoverFault
piece_of number value =
    given (Shape number) (members_among (codes "entries" ∷ codes "upto" ∷ []) value) λ members.
    given (Shape number) (unsigned_at (codes "upto") value) λ upto.
    given (Shape number) (items_at (codes "entries") value) λ items.
    asked (TooManyEntries number) (nat_le (items_len items) max_entries) (
    given (Shape number) (entries_of items) λ entries.
    Ok (record { entries = entries; upto = upto }))

-- the pieces, counted from this number on
abbrev pub pieces_from : ℕ → Items → Result (List PieceData) CoverFault
pieces_from number no_items = Ok []
pieces_from number (item value rest) =
    after (piece_of number value) λ first.
    after (pieces_from (number + 1) rest) λ others.
    Ok (first ∷ others)
