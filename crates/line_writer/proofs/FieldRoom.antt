-- How much room short fields take.
use Rattle.line_writer.proofs.Common.{◌≡◌, ◌≤◌, ◌*◌, Bool, true, List, [], ◌∷◌, length, map, arith, nat_tests, list_all, FieldData, Word, Label, Instead, Named, Heading, field_data, is_short, most_of, room_of}
use Rattle.line_writer.specs.declared.field.Field.{Field}

one_room : (field : FieldData) → is_short field ≡ true → most_of field ≤ 101
one_room (Word word) short = grind (arith, nat_tests)
one_room (Label word) short = grind (arith, nat_tests)
one_room (Instead word) short = grind (arith, nat_tests)
one_room (Heading word kind) short = grind (arith, nat_tests)
one_room (Named name n) short = grind (arith, nat_tests)
one_room field short = omega arith

-- short fields take 101 bytes each at most
pub short_room : (fields : List Field) → list_all (λ field. is_short (field_data field)) fields ≡ true →
    room_of (map field_data fields) ≤ 101 * length fields
short_room [] all = omega arith
short_room (field ∷ fields) all = grind (arith, Bool, map, one_room, short_room fields)
