-- What the text of a certificate says: a certificate, or the first fault that it has.
--
-- `{"pieces":[{"entries":[[a,b],..],"upto":n},..]}`, with blanks and the names in any order. The
-- count of pieces is looked at before any piece, and the pieces are looked at in order.
use Rattle.std.specs.Prelude.{ℕ, ◌+◌, ◌^◌, List, [], ◌∷◌, Option, Some, None, option_map, option_and_then, Result, Ok, codes, nat_lt, nat_le, if◌then◌else◌}
use Rattle.certificate.specs.Common.{Data, Items, no_items, item, items_len, as_array, members_among, items_at, unsigned_at, unsigned_of, given, asked, after, parsed}
use Rattle.certificate.specs.declared.fault.CertificateFault.{CertificateFault}
use Rattle.certificate.specs.declared.fault.CertificateFault.TheVariants.{Json, Top, Shape, TooManyEntries, TooManyPieces}
use Rattle.certificate.specs.Certificate.{CertificateData, PieceData, max_pieces, max_entries}

-- the number of a sample
abbrev pub sample_of : Data → Option ℕ
sample_of value = option_and_then (λ n. if nat_lt n (2 ^ 32) then Some n else None)
    (unsigned_of value)

-- the numbers of two samples
abbrev pub pair_of : Items → Option (ℕ × ℕ)
pair_of no_items = None
pair_of (item low no_items) = None
pair_of (item low (item high no_items)) =
    option_and_then (λ a. option_map (λ b. (a, b)) (sample_of high)) (sample_of low)
pair_of (item low (item high (item more rest))) = None

-- an entry: an array of two such numbers
abbrev pub entry_of : Data → Option (ℕ × ℕ)
entry_of value = option_and_then pair_of (as_array value)

abbrev pub entries_of : Items → Option (List (ℕ × ℕ))
entries_of no_items = Some []
entries_of (item value rest) =
    option_and_then (λ first. option_map (λ others. first ∷ others) (entries_of rest))
    (entry_of value)

-- the piece with this number: an object of exactly these names
abbrev pub piece_of : ℕ → Data → Result PieceData CertificateFault
piece_of number value =
    given (Shape number) (members_among (codes "entries" ∷ codes "upto" ∷ []) value) λ members.
    given (Shape number) (unsigned_at (codes "upto") value) λ upto.
    given (Shape number) (items_at (codes "entries") value) λ items.
    asked (TooManyEntries number) (nat_le (items_len items) max_entries) (
    given (Shape number) (entries_of items) λ entries.
    Ok (record { entries = entries; upto = upto }))

-- the pieces, counted from this number on
abbrev pub pieces_from : ℕ → Items → Result (List PieceData) CertificateFault
pieces_from number no_items = Ok []
pieces_from number (item value rest) =
    after (piece_of number value) λ first.
    after (pieces_from (number + 1) rest) λ others.
    Ok (first ∷ others)

-- the array of an object with the one name `pieces`
abbrev pub top_of : Data → Option Items
top_of value =
    option_and_then (λ members. items_at (codes "pieces") value)
    (members_among (codes "pieces" ∷ []) value)

-- what a JSON value says
abbrev pub certificate_from : Data → Result CertificateData CertificateFault
certificate_from value =
    given Top (top_of value) λ items.
    asked TooManyPieces (nat_le (items_len items) max_pieces) (
    after (pieces_from 0 items) λ pieces.
    Ok (record { pieces = pieces }))

-- what the bytes of a certificate say
abbrev pub certificate_of : List ℕ → Result CertificateData CertificateFault
certificate_of bytes = given Json (parsed bytes) certificate_from
