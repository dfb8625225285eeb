-- What was written is read again.
use Rattle.cover_certificate.proofs.Common.{◌≡◌, ℕ, suc, ◌+◌, ◌<◌, ◌^◌, List, [], ◌∷◌, length, map, Some, Ok, refl, ap, arith, lt-ltb, le-leb, All, Data, items_len, items_of, PieceData, NamesSamples, IsReadable, sample_of, entry_of, entries_of, piece_of, pieces_from, number_value, entry_value, piece_value}
use Rattle.std.proofs.lemmas.List.Elements.{All-tail}

sample_of-value : (n : ℕ) → n < 2 ^ 32 → sample_of (number_value n) ≡ Some n
sample_of-value n small = rw (lt-ltb n (2 ^ 32) small) refl

entry_of-value : (entry : ℕ × ℕ) → NamesSamples entry → entry_of (entry_value entry) ≡ Some entry
entry_of-value (low, high) named = rw (sample_of-value low named.low, sample_of-value high named.high) refl

pub entries_of-values : (entries : List (ℕ × ℕ)) → All NamesSamples entries →
    entries_of (items_of (map entry_value entries)) ≡ Some entries
entries_of-values [] named = refl
entries_of-values (e ∷ es) named =
    rw (entry_of-value e (named 0 e (omega arith)), entries_of-values es (All-tail NamesSamples e es named)) refl

pub items_len-map : {X : Type 0} (value : X → Data) (xs : List X) → items_len (items_of (map value xs)) ≡ length xs
items_len-map value [] = refl
items_len-map value (x ∷ xs) = ap suc (items_len-map value xs)

piece_of-value : (number : ℕ) (piece : PieceData) → IsReadable piece → piece_of number (piece_value piece) ≡ Ok piece
piece_of-value number piece readable =
    rw (
      items_len-map entry_value piece.entries,
      le-leb (length piece.entries) 32 readable.few,
      entries_of-values piece.entries readable.named,
    ) refl

pub pieces_from-values : (number : ℕ) (pieces : List PieceData) → All IsReadable pieces →
    pieces_from number (items_of (map piece_value pieces)) ≡ Ok pieces
pieces_from-values number [] readable = refl
pieces_from-values number (p ∷ ps) readable =
    rw (
      piece_of-value number p (readable 0 p (omega arith)),
      pieces_from-values (number + 1) ps (All-tail IsReadable p ps readable),
    ) refl
