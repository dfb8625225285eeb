-- The text of a certificate is that of its JSON value.
use Rattle.certificate.proofs.Common.{◌≡◌, ℕ, List, [], ◌∷◌, ◌++◌, false, map, refl, sym, ap, ◌∙◌, append_assoc, join_with_byte, serde_json_on_literals, Data, items_of, compact_text, items_text, PieceData, CertificateData, comma, entry_text, piece_text, certificate_text, entry_value, piece_value, certificate_value}

-- the elements of an array, with commas between them
pub items_text-map : {X : Type 0} (value : X → Data) (text : X → List ℕ) → ((x : X) → compact_text (value x) ≡ text x) →
    (xs : List X) →
    items_text false (items_of (map value xs)) ≡ join_with_byte comma (map text xs) ++ 93 ∷ []
items_text-map value text same [] = refl
items_text-map value text same (x ∷ []) = ap (λ t. t ++ 93 ∷ []) (same x)
items_text-map value text same (x ∷ y ∷ xs) =
    ap (λ t. t ++ comma ∷ items_text false (items_of (map value (y ∷ xs)))) (same x)
    ∙ ap (λ t. text x ++ comma ∷ t) (items_text-map value text same (y ∷ xs))
    ∙ sym (append_assoc (text x) (comma ∷ join_with_byte comma (map text (y ∷ xs))) (93 ∷ []))

entry_text-value : (entry : ℕ × ℕ) → compact_text (entry_value entry) ≡ entry_text entry
entry_text-value (low, high) = simp append_assoc

piece_text-value : (piece : PieceData) → compact_text (piece_value piece) ≡ piece_text piece
unfolding serde_json_on_literals
piece_text-value piece = rw (items_text-map entry_value entry_text entry_text-value piece.entries) (simp append_assoc)

pub certificate_text-value : (certificate : CertificateData) →
    compact_text (certificate_value certificate) ≡ certificate_text certificate
unfolding serde_json_on_literals
certificate_text-value certificate =
    rw (items_text-map piece_value piece_text piece_text-value certificate.pieces) (simp append_assoc)
