-- What the text of a refutation says: a refutation, or the first fault that it has.
--
-- `{"error":e,"false":[s,..],"reading":n}`, with blanks and the names in any order.
use Rattle.std.specs.Prelude.{ℕ, ◌^◌, List, [], ◌∷◌, Option, Some, None, option_map, option_and_then, Result, Ok, codes, nat_lt, nat_le, if◌then◌else◌}
use Rattle.certificate.specs.Common.{Data, Items, no_items, item, items_len, members_among, items_at, signed_at, unsigned_at, unsigned_of, given, asked, parsed}
use Rattle.certificate.specs.declared.refutation_fault.RefutationFault.{RefutationFault}
use Rattle.certificate.specs.declared.refutation_fault.RefutationFault.TheVariants.{Json, Shape}
use Rattle.certificate.specs.Refutation.{RefutationData, max_liars}

-- the number of a server
abbrev pub server_of : Data → Option ℕ
server_of value = option_and_then (λ n. if nat_lt n (2 ^ 8) then Some n else None)
    (unsigned_of value)

-- the numbers of servers, in their order
abbrev pub servers_of : Items → Option (List ℕ)
servers_of no_items = Some []
servers_of (item value rest) =
    option_and_then (λ first. option_map (λ others. first ∷ others) (servers_of rest))
    (server_of value)

-- what a JSON value says: an object of exactly these names
abbrev pub refutation_from : Data → Result RefutationData RefutationFault
refutation_from value =
    given Shape (members_among (codes "error" ∷ codes "false" ∷ codes "reading" ∷ []) value)
    λ members.
    given Shape (signed_at (codes "error") value) λ error.
    given Shape (unsigned_at (codes "reading") value) λ reading.
    given Shape (items_at (codes "false") value) λ items.
    asked Shape (nat_le (items_len items) max_liars) (
    given Shape (servers_of items) λ liars.
    Ok (record { error = error; liars = liars; reading = reading }))

-- what the bytes of a refutation say
abbrev pub refutation_of : List ℕ → Result RefutationData RefutationFault
refutation_of bytes = given Json (parsed bytes) refutation_from
