-- A line, field by field.
use Rattle.listing.proofs.Common.{◌≡◌, ◌∙◌, ◌++◌, ℕ, List, [], ◌∷◌, length, refl, ap, append_assoc, join_with_byte, RecordHead, endpoint_fields, mode_fields, clock_fields, root_fields, stamp_fields, tick_fields, packet_fields, spaced}
use Rattle.ntp_packet.specs.Packet.{Packet}

-- fields in two groups
pub spaced-append : (xs ys : List (List ℕ)) (text : List ℕ) → spaced (xs ++ ys) text ≡ spaced xs (spaced ys text)
spaced-append [] ys text = refl
spaced-append (x ∷ xs) ys text = ap (λ (t : List ℕ). 32 ∷ (x ++ t)) (spaced-append xs ys text)

-- a first field and the others
pub joined_by_blanks : (x : List ℕ) (xs : List (List ℕ)) (text : List ℕ) →
    join_with_byte 32 (x ∷ xs) ++ text ≡ x ++ spaced xs text
joined_by_blanks x [] text = refl
joined_by_blanks x (y ∷ ys) text =
    append_assoc x (32 ∷ join_with_byte 32 (y ∷ ys)) text
    ∙ ap (λ (t : List ℕ). x ++ 32 ∷ t) (joined_by_blanks y ys text)

pub are_twenty : (head : RecordHead) (packet : Packet) → length (packet_fields head packet) ≡ 20
unfolding endpoint_fields mode_fields clock_fields root_fields stamp_fields tick_fields
are_twenty head packet = refl
