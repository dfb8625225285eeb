-- An IPv4 address, and the text that writes it: four decimal numbers below 256 without leading
-- zeros, with dots between them. std's grammar of addresses has the relation, `IsDotted`.
use Rattle.std.specs.Prelude.{ℕ, Bool, true, not, ◌&&◌, List, [], ◌∷◌, Option, Some, None, option_map, option_and_then}
use Rattle.std.specs.List.{list_any}
use Rattle.std.specs.Net.Reader.{read_ipv4}
use Rattle.std.specs.Str.{bytes_eq}

-- what was read, if nothing follows it
abbrev pub whole : {A : Type 0} → A × List ℕ → Option A
whole (value, []) = Some value
whole (value, (byte ∷ rest)) = None

-- the four numbers of the address that a text writes
abbrev pub address_of : List ℕ → Option (List ℕ)
address_of text = option_and_then whole (read_ipv4 text)

-- the addresses that texts write, if each writes one
abbrev pub addresses_of : List (List ℕ) → Option (List (List ℕ))
addresses_of [] = Some []
addresses_of (text ∷ texts) =
    option_and_then (λ first. option_map (λ others. first ∷ others) (addresses_of texts))
    (address_of text)

-- no address stands twice
abbrev pub are_different : List (List ℕ) → Bool
are_different [] = true
are_different (address ∷ rest) =
    not (list_any (λ other. bytes_eq other address) rest) && are_different rest
