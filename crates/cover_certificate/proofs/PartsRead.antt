-- The members of a piece, read one after another: what the last member of each name says.
use Rattle.std.proofs.lemmas.Int.{ints}
use Rattle.cover_certificate.proofs.Common.{◌≡◌, ℕ, List, Bool, true, false, Option, Some, None, if◌then◌else◌, option_map, Result, Ok, nat_le, refl, codes, get_member-put, get_member-put_other, Data, Items, Members, put, object, as_array, items_len, given, asked, after, unsigned_of, CoverFault, Shape, TooManyEntries, max_entries, entries_of, piece_of, PieceParts, entries_in, parts_of, piece_from, arith, nat_tests}
use Rattle.certificate.proofs.PartsRead.{has_only-put, not_same}

abbrev pub made : Bool → Option ℕ → Option (Result (List (ℕ × ℕ)) CoverFault) → PieceParts
made is_known upto entries = record { is_known = is_known; upto = upto; entries = entries }

module _ (number : ℕ) (value : Data) (found : Members) (parts : PieceParts)
    (known : parts ≡ parts_of number found) where
  pub parts_entries : (read : Option (Result (List (ℕ × ℕ)) CoverFault)) →
      option_map (entries_in number) (as_array value) ≡ read →
      made parts.is_known parts.upto read ≡ parts_of number (put (codes "entries") value found)
  parts_entries read is =
      grind (arith, ints, nat_tests, get_member-put_other, value, found, get_member-put, known, has_only-put)

  pub parts_upto : (read : Option ℕ) → unsigned_of value ≡ read →
      made parts.is_known read parts.entries ≡ parts_of number (put (codes "upto") value found)
  parts_upto read is =
      grind (arith, ints, nat_tests, get_member-put_other, value, found, known, has_only-put, get_member-put)

  pub parts_other : (name : List ℕ) → (name ≡ codes "entries" → ⊥) → (name ≡ codes "upto" → ⊥) →
      made false parts.upto parts.entries ≡ parts_of number (put name value found)
  parts_other name no_entries no_upto =
      grind (arith, ints, nat_tests, get_member-put_other, value, found, not_same, known, has_only-put)

after_asked : {A B : Type 0} (few bad : CoverFault) (fits : Bool) (read : Option A) (more : A → B) →
    after (asked few fits (given bad read Ok)) (λ a. Ok (more a)) ≡ asked few fits (given bad read (λ a. Ok (more a)))
after_asked few bad false read more = refl
after_asked few bad true None more = refl
after_asked few bad true (Some a) more = refl

same_piece : (number : ℕ) (ms : Members) (is_known : Bool) (upto : Option ℕ) (items : Option Items) →
    piece_from number (made is_known upto (option_map (entries_in number) items))
    ≡ (given (Shape number) (if is_known then Some ms else None) λ members.
    given (Shape number) upto λ upto.
    given (Shape number) items λ items.
    asked (TooManyEntries number) (nat_le (items_len items) max_entries) (
    given (Shape number) (entries_of items) λ entries.
    Ok (record { entries = entries; upto = upto })))
same_piece number ms false upto items = refl
same_piece number ms true None items = refl
same_piece number ms true (Some upto) None = refl
same_piece number ms true (Some upto) (Some items) =
    after_asked (TooManyEntries number) (Shape number) (nat_le (items_len items) max_entries) (entries_of items)
    (λ entries. record { entries = entries; upto = upto })

-- the piece of an object is that of its parts
pub piece_from-parts : (number : ℕ) (members : Members) →
    piece_from number (parts_of number members) ≡ piece_of number (object members)
piece_from-parts number members = grind (arith, ints, nat_tests, same_piece)
