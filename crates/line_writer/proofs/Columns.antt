-- Texts in columns.
use Rattle.line_writer.proofs.Common.{◌≡◌, ℕ, ◌+◌, ◌-◌, ◌≤◌, ◌∷◌, ◌++◌, List, length, arith, refl, length-append, add-one, append_assoc, replicate, FieldData, Word, Label, Named, Instead, Heading, in_column, width, width_of, most_of}
use Rattle.line_writer.specs.declared.field.ColumnKind.{ColumnKind}
use Rattle.line_writer.specs.declared.field.ColumnKind.TheVariants as kind

pub one_more : (n : ℕ) (text : List ℕ) → 32 ∷ (replicate n 32 ++ text) ≡ replicate (n + 1) 32 ++ text
one_more n text = rw add-one refl

-- no column is wider than the longest text of its field
narrow : (k : ColumnKind) → width k ≤ 20
narrow kind.Number = omega arith
narrow kind.Second = omega arith
narrow kind.End = omega arith
narrow kind.Name = omega arith

pub in_room : (field : FieldData) → width_of field + 1 ≤ most_of field
in_room (Word word) = omega arith
in_room (Label word) = omega arith
in_room (Named name n) = omega arith
in_room (Instead word) = omega arith
in_room (Heading word k) = omega (arith, narrow k)
in_room field = omega arith

-- blanks up to an end
pub is_in_column : (width : ℕ) (text old : List ℕ) →
    replicate (length old + width - length (text ++ old)) 32 ++ (text ++ old) ≡ in_column width text ++ old
is_in_column width text old = grind (arith, length-append, append_assoc)
