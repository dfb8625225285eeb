-- The pieces of a certificate, read one after another.
use Rattle.std.proofs.lemmas.Int.{ints}
use Rattle.cover_certificate.proofs.Common.{◌≡◌, ℕ, suc, ◌+◌, ◌≤◌, List, [], ◌∷◌, ◌++◌, nat_le, Some, None, Result, Ok, Err, ap, ap₂, ◌∙◌, arith, append-nil, append_assoc, Data, Items, no_items, item, items_len, parse_map, after_end_array, Token, mapped_same, element_read, goes_on, next_value, next_items, rest_after, asked, after, CoverFault, TooManyPieces, PieceData, max_pieces, pieces_and, piece_of, pieces_from, nat_tests}

abbrev Pieces : Type 0
Pieces = Result (List PieceData) CoverFault

abbrev and_more : Pieces → Pieces → Pieces
and_more found more = after found λ pieces. after more λ others. Ok (pieces ++ others)

-- what is said if this many pieces were read and these are left
abbrev pub pieces_after : ℕ → Result (List PieceData) CoverFault → Items →
    Result (List PieceData) CoverFault
pieces_after count found items =
    asked TooManyPieces (nat_le (count + items_len items) max_pieces) (and_more found (pieces_from count items))

one_more : (found : Pieces) (piece : Result PieceData CoverFault) (more : Pieces) →
    and_more found (after piece λ first. after more λ others. Ok (first ∷ others))
    ≡ and_more (after found λ pieces. after piece λ p. Ok (pieces ++ p ∷ [])) more
one_more found piece more = grind (arith, append_assoc)

pieces_next : (count : ℕ) (found : Result (List PieceData) CoverFault) (value : Data) (rest : Items) →
    pieces_after count found (item value rest) ≡ pieces_after (count + 1) (pieces_and count found value) rest
pieces_next count found value rest =
    let same : count + suc (items_len rest) ≡ count + 1 + items_len rest = omega arith in
    ap₂ (λ n more. asked TooManyPieces (nat_le n max_pieces) more) same
    (one_more found (piece_of count value) (pieces_from (count + 1) rest))

nothing_more : (found : Pieces) → and_more found (Ok []) ≡ found
nothing_more found = grind (arith, append-nil)

pub pieces_last : (count : ℕ) (found : Result (List PieceData) CoverFault) → count ≤ max_pieces →
    pieces_after count found no_items ≡ found
pieces_last count found few = grind (arith, ints, nat_tests, nothing_more)

pieces_too_many : (count : ℕ) (found : Result (List PieceData) CoverFault) (value : Data) (rest : Items) →
    count ≡ max_pieces → pieces_after count found (item value rest) ≡ Err TooManyPieces
pieces_too_many count found value rest full = grind (arith, ints, nat_tests)

-- ---- a turn of the reading

module _ (count : ℕ) (found : Result (List PieceData) CoverFault) (depth : ℕ) (ts : List Token)
    (going : after_end_array ts ≡ None) where
  pub too_many_there : (r : List Token) → count ≡ max_pieces → rest_after (next_items depth ts) ≡ Some r →
      parse_map (pieces_after count found) (next_items depth ts) ≡ Some (Err TooManyPieces, r)
  too_many_there r full is =
      let (v, rest, read) = goes_on (pieces_after count found) depth ts r going is in
      read ∙ ap (λ e. Some (e, r)) (pieces_too_many count found v rest full)

  pub one_more_there : (now : Result (List PieceData) CoverFault) (r : List Token) →
      parse_map (pieces_and count found) (next_value depth ts) ≡ Some (now, r) →
      parse_map (pieces_after count found) (next_items depth ts)
      ≡ parse_map (pieces_after (count + 1) now) (next_items depth r)
  one_more_there now r is =
      let (v, same, more) = element_read (pieces_after count found) depth ts (pieces_and count found) now r going is in
      more ∙ mapped_same _ _ (pieces_next count found v) (next_items depth r)
      ∙ ap (λ f. parse_map (pieces_after (count + 1) f) (next_items depth r)) same
