-- The first fault of a piece and of a certificate, step by step.
use Rattle.std.proofs.lemmas.Grind.{common_steps}
use Rattle.checker.proofs.Common.{◌≡◌, ◌≢◌, ℕ, ◌+◌, ◌<◌, ◌≤◌, ◌^◌, ℤ, pos, ◌≤ℤ◌, ◌<ℤ◌, Bool, true, false, ◌&&◌, int_lt, nat_lt, if◌then◌else◌, List, [], ◌∷◌, length, map, drop, get_or, Option, Some, None, Result, sym, ap, ◌∙◌, arith, int_eq, nat_tests, ints, PieceData, piece_data, ClaimData, Sample, parts_after, parts_fault, piece_fault, verdict_after, verdict_from, IsPiece, Part, Verdict, Yes, No, Why, Cut, Uncovered, rules}
use Rattle.std.proofs.Math.ListN.{drop_of_length-le}
use Rattle.std.proofs.Math.Seq.{drop-cons}
use Rattle.certificate.specs.declared.certificate.Piece.{Piece}

-- ---- a piece

-- a piece with its begin, its end and the last reading of the span, as a program holds them
module _ (samples : List Sample) (claim : ClaimData) (begin : ℤ) (piece : PieceData) (b e l : ℤ)
    (is_b : b ≡ begin) (is_e : e ≡ pos piece.upto) (is_l : l ≡ claim.last) where
  pub cut_before : int_lt e b ≡ true → Some Cut ≡ piece_fault samples claim begin piece
  cut_before before = search rules

  pub cut_after : int_lt e b ≡ false → int_lt l e ≡ true → Some Cut ≡ piece_fault samples claim begin piece
  cut_after before after = search rules

  pub uncut : (read : Result (List Part) Why) → int_lt e b ≡ false → int_lt l e ≡ false
      → parts_after samples (record { begin = b; end = e }) claim.drift_ppb [] piece.entries ≡ read
      → parts_fault claim read ≡ piece_fault samples claim begin piece
  uncut read before after is = search rules

  pub uncut_piece : pos 0 ≤ℤ begin → claim.last <ℤ pos (2 ^ 64) → int_lt e b ≡ false → int_lt l e ≡ false
      → IsPiece b e
  uncut_piece begins ends before after = search rules

-- ---- the test after the last piece

last_test : (n : ℕ) (begin last : ℤ) → 0 < n → begin ≡ last → (nat_lt 0 n && int_eq begin last) ≡ true
last_test n begin last some ends = grind (arith, ints, nat_tests)

pub none_read : (n : ℕ) (begin last : ℤ) → n ≤ 0 → (nat_lt 0 n && int_eq begin last) ≡ false
none_read n begin last none = grind (arith, nat_tests)

pub ends_elsewhere : (n : ℕ) (begin last : ℤ) → begin ≢ last → (nat_lt 0 n && int_eq begin last) ≡ false
ends_elsewhere n begin last other = grind (arith, ints, nat_tests)

-- ---- the pieces from one on

module _ (samples : List Sample) (claim : ClaimData) (pieces : List Piece) (n : ℕ) (begin : ℤ) (whole : Verdict)
    (rest : verdict_from samples claim n begin (map piece_data (drop n pieces)) ≡ whole) where
  -- the next piece, which the program has from a list that is the same
  module _ (held : List Piece) (piece : Piece) (same : held ≡ pieces) (is : piece ≡ get_or held n piece)
      (within : n < length held) where
    left : drop n pieces ≡ piece ∷ drop (n + 1) pieces
    left = grind (arith, ints, nat_tests, drop-cons)

    by_fault : (fault : Option Why) → piece_fault samples claim begin (piece_data piece) ≡ fault
        → whole ≡ verdict_after fault n
        (verdict_from samples claim (n + 1) (pos piece.upto) (map piece_data (drop (n + 1) pieces)))
    by_fault fault is_fault =
        sym rest
        ∙ ap (λ (l : List Piece). verdict_from samples claim n begin (map piece_data l)) left
        ∙ ap (λ (f : Option Why). verdict_after f n
        (verdict_from samples claim (n + 1) (pos piece.upto) (map piece_data (drop (n + 1) pieces)))) is_fault

    pub stops_at : (why : Why) → piece_fault samples claim begin (piece_data piece) ≡ Some why → No n why ≡ whole
    stops_at why fails = sym (by_fault (Some why) fails)

    pub passes_to : (next : ℤ) → next ≡ pos piece.upto → piece_fault samples claim begin (piece_data piece) ≡ None
        → verdict_from samples claim (n + 1) next (map piece_data (drop (n + 1) pieces)) ≡ whole
    passes_to next is_next passes = grind (arith, ints, nat_tests, common_steps, by_fault)

  -- none is left
  module _ (over : length pieces ≤ n) where
    at_end : (ends : Bool) → (nat_lt 0 n && int_eq begin claim.last) ≡ ends
        → whole ≡ (if ends then Yes else No n Uncovered)
    at_end ends is =
        sym rest
        ∙ ap (λ (l : List Piece). verdict_from samples claim n begin (map piece_data l)) (drop_of_length-le pieces over)
        ∙ ap (λ (t : Bool). if t then Yes else No n Uncovered) is

    pub covered : 0 < n → begin ≡ claim.last → Yes ≡ whole
    covered some ends = sym (at_end true (last_test n begin claim.last some ends))

    pub uncovered : (count : ℕ) → count ≡ n → (nat_lt 0 n && int_eq begin claim.last) ≡ false
        → No count Uncovered ≡ whole
    uncovered count same fails = ap (λ (k : ℕ). No k Uncovered) same ∙ sym (at_end false fails)
