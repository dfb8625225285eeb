-- The lines for a program, written field by field from right to left.
use Rattle.audit_text.proofs.Common.{◌≡◌, ◌++◌, List, [], ◌∷◌, ℕ, refl, codes, append_assoc, flat_map-append, FieldData, line_of, rest_text, text_of, Plain}
use Rattle.audit_text.specs.Line.{written}

-- they are joined by blanks
fields_written : (fields : List FieldData) (old : List ℕ) → written fields old ≡ rest_text Plain fields ++ old
fields_written [] old = refl
fields_written (field ∷ fields) old = simp (append_assoc, fields_written fields old)

-- a first field and four groups of others
pub groups_written : (first : FieldData) (a b c d : List FieldData) →
    text_of Plain first ++ written a (written b (written c (written d (codes "\n"))))
    ≡ line_of Plain (first ∷ (a ++ (b ++ (c ++ d))))
groups_written first a b c d = simp (fields_written, flat_map-append, append_assoc)
