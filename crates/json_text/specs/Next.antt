-- A JSON text read token by token: the value that comes next, the elements that are left of an
-- array, and the members that are left of an object, each with the tokens after it.
--
-- What they say together is what `parsed` says about a whole text. The depth is how deep arrays and
-- objects may still nest.
use Rattle.std.specs.Prelude.{◌≡◌, ℕ, ◌-◌, ◌<◌, List, length, Option, Some, None, option_map, Result, MatchResult}
use Rattle.json.specs.Json.{value, items, members, parse_map}
use Rattle.json.specs.Token.{Token}
use Rattle.serde_json.specs.Data.{Data, number, unsigned, array, object, Items, Members, no_members}
use Rattle.serde_json.specs.Find.{as_array, as_object}
use Rattle.serde_json.specs.Read.{of_json, of_items, of_members, converted}
use Rattle.json_text.specs.Member.{unsigned_of}
use Rattle.json_text.specs.declared.next.Opening.{Opening}
use Rattle.json_text.specs.declared.next.Opening.TheVariants.{Unsigned, Array, Object, Other}

unfoldable pub next_value : ℕ → List Token → Option (Data × List Token)
next_value depth ts = converted of_json (value depth ts)

-- up to the bracket that closes the array
unfoldable pub next_items : ℕ → List Token → Option (Items × List Token)
next_items depth ts = converted of_items (items (value depth) (length ts) ts)

-- up to the brace that closes the object, if these members came before
unfoldable pub next_members : ℕ → Members → List Token → Option (Members × List Token)
next_members depth found ts =
    converted (λ ms. of_members ms found) (members (value depth) (length ts) ts)

-- the tokens after what is read, if it can be read
abbrev pub rest_after : {A : Type 0} → Option (A × List Token) → Option (List Token)
rest_after read = option_map (λ p. p.1) read

-- what was read is what is defined, and these tokens follow it
abbrev pub Reads : {A B E : Type 0} →
    Result A E → (A → B) → Option (B × List Token) → List Token → Type 0
Reads answer shown defined rest =
    MatchResult answer (λ value. defined ≡ Some (shown value, rest)) (λ fault. defined ≡ None)

-- a whole value that isn't of this kind comes first
abbrev pub HasOther : {A : Type 0} → (Data → Option A) → ℕ → List Token → List Token → Type 0
HasOther kind depth old new =
    (value : Data) × (kind value ≡ None) × (next_value depth old ≡ Some (value, new))

-- a value that is no unsigned number, no array and no object
pub record IsOther (value : Data) : Type 0 where
  pub no_number : unsigned_of value ≡ None
  pub no_array : as_array value ≡ None
  pub no_object : as_object value ≡ None

-- what is known of the value that began so, and of the tokens after its beginning
abbrev pub Opens : Opening → ℕ → List Token → List Token → Type 0
Opens (Unsigned n) depth old new = next_value depth old ≡ Some (number (unsigned n), new)
Opens Array depth old new =
    (0 < depth) × (next_value depth old ≡ parse_map array (next_items (depth - 1) new))
Opens Object depth old new =
    (0 < depth)
    × (next_value depth old ≡ parse_map object (next_members (depth - 1) no_members new))
Opens Other depth old new =
    (value : Data) × IsOther value × (next_value depth old ≡ Some (value, new))
