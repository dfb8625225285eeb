-- The text that writes a refutation: compact, with the names in the order of their bytes and
-- numbers in decimal.
use Rattle.std.specs.Prelude.{ℕ, List, ◌++◌, map, codes, decimal}
use Rattle.certificate.specs.Common.{signed_decimal, join_with_byte, Data, number, array, object, member, no_members, of_integer, items_of}
use Rattle.certificate.specs.Refutation.{RefutationData}
use Rattle.certificate.specs.Writing.{comma, number_value}

abbrev pub refutation_text : RefutationData → List ℕ
refutation_text refutation =
    codes "{\"error\":" ++ signed_decimal refutation.error
    ++ codes ",\"false\":[" ++ join_with_byte comma (map decimal refutation.liars)
    ++ codes "],\"reading\":" ++ decimal refutation.reading ++ codes "}"

-- the same as a JSON value
abbrev pub refutation_value : RefutationData → Data
refutation_value refutation =
    object (member (codes "error") (number (of_integer refutation.error))
    (member (codes "false") (array (items_of (map number_value refutation.liars)))
    (member (codes "reading") (number_value refutation.reading) no_members)))
