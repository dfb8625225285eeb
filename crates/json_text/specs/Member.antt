-- The members of an object, by name and kind.
use Rattle.std.specs.Prelude.{ℕ, ℤ, List, Bool, true, ◌&&◌, Option, Some, None, option_and_then, if◌then◌else◌}
use Rattle.std.specs.List.{list_any}
use Rattle.std.specs.Str.{bytes_eq}
use Rattle.serde_json.specs.Data.{Data, Items, Members, no_members, member}
use Rattle.serde_json.specs.Find.{get, as_str, as_array, as_object, as_number, as_u64, as_i64}

-- every name of the object is listed
abbrev pub has_only : List (List ℕ) → Members → Bool
has_only names no_members = true
has_only names (member name value members) =
    list_any (λ listed. bytes_eq listed name) names && has_only names members

-- the members of an object that has no name but those listed
abbrev pub members_among : List (List ℕ) → Data → Option Members
members_among names value =
    option_and_then (λ members. if has_only names members then Some members else None)
    (as_object value)

-- the value if it is a whole number from 0 to 2^64 - 1, without sign, fraction or exponent
abbrev pub unsigned_of : Data → Option ℕ
unsigned_of value = option_and_then as_u64 (as_number value)

-- the value if it is a whole number from -2^63 to 2^63 - 1, without fraction or exponent
abbrev pub signed_of : Data → Option ℤ
signed_of value = option_and_then as_i64 (as_number value)

-- the member of a name, if it is a text, an array, or such a number
abbrev pub text_at : List ℕ → Data → Option (List ℕ)
text_at name value = option_and_then as_str (get name value)

abbrev pub items_at : List ℕ → Data → Option Items
items_at name value = option_and_then as_array (get name value)

abbrev pub unsigned_at : List ℕ → Data → Option ℕ
unsigned_at name value = option_and_then unsigned_of (get name value)

abbrev pub signed_at : List ℕ → Data → Option ℤ
signed_at name value = option_and_then signed_of (get name value)
