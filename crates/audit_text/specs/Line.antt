-- Lines for a program: how long they are, and how they are written from right to left.
use Rattle.std.specs.Prelude.{ℕ, List, [], ◌∷◌, ◌++◌}
use Rattle.audit_text.specs.Common.{FieldData, next_text, Plain}

-- no line of a sample or of counts has more bytes
abbrev pub most_line : ℕ
most_line = 400

-- fields that follow another, and then a text
abbrev pub written : List FieldData → List ℕ → List ℕ
written [] text = text
written (field ∷ fields) text = next_text Plain field ++ written fields text
