-- The members of the whole, read one after another.
use Rattle.std.proofs.lemmas.Int.{ints}
use Rattle.certificate.proofs.Common.{◌≡◌, ℕ, List, Bool, false, Option, option_map, Result, codes, get_member-put, get_member-put_other, Data, Members, put, as_array, CertificateFault, PieceData, TopParts, pieces_in, top_parts_of, arith, nat_tests}
use Rattle.certificate.proofs.PartsRead.{has_only-put, not_same}

abbrev pub whole : Bool → Option (Result (List PieceData) CertificateFault) → TopParts
whole is_known pieces = record { is_known = is_known; pieces = pieces }

module _ (value : Data) (found : Members) (parts : TopParts) (known : parts ≡ top_parts_of found) where
  pub whole_pieces : (read : Option (Result (List PieceData) CertificateFault)) →
      option_map pieces_in (as_array value) ≡ read →
      whole parts.is_known read ≡ top_parts_of (put (codes "pieces") value found)
  whole_pieces read is = grind (arith, ints, nat_tests, known, has_only-put, value, found, get_member-put)

  pub whole_other : (name : List ℕ) → (name ≡ codes "pieces" → ⊥) →
      whole false parts.pieces ≡ top_parts_of (put name value found)
  whole_other name other =
      grind (arith, ints, nat_tests, get_member-put_other, value, found, known, has_only-put, not_same)
