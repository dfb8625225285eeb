-- The first fault of a piece and of a case, step by step.
use Rattle.std.proofs.lemmas.Grind.{common_steps}
use Rattle.std.proofs.Math.ListN.{drop_of_length-le}
use Rattle.std.proofs.Math.Seq.{drop-cons}
use Rattle.std.specs.Ordering.{int_eq}
use Rattle.std.specs.Prelude.{◌^◌, if◌then◌else◌}
use Rattle.certificate.specs.Certificate.{piece_data}
use Rattle.certificate.specs.declared.certificate.Piece.{Piece}
use Rattle.span_cover.specs.Piece.{IsPiece}
use Rattle.checker.specs.declared.verdict.Why.TheVariants.{Cut, Uncovered}
use Rattle.cover_checker.proofs.Common.{◌≡◌, ℕ, ◌+◌, ◌<◌, ◌≤◌, ℤ, pos, ◌≤ℤ◌, ◌<ℤ◌, Bool, true, false, ◌&&◌, int_lt, nat_lt, List, [], ◌∷◌, length, map, drop, get_or, Option, Some, None, Result, sym, ap, ◌∙◌, arith, nat_tests, ints, rules, PieceData, ClaimData, Exchange, Part, parts_after, Of, PieceWhy}
use Rattle.cover_checker.specs.Case.{first_of}
use Rattle.cover_checker.specs.Verdict.{case_fault, parts_why, piece_why, pieces_why}
use Rattle.cover_certificate.specs.CoverCertificate.{case_data}
use Rattle.cover_certificate.specs.declared.cover_certificate.Case.{Case}
use Rattle.feasibility.specs.Members.{has}
use Rattle.cover_checker.specs.Conflict.{names}

module _ (claim : ClaimData) (xs : List Exchange) (out : ℕ → Bool) where
  -- ---- a piece, with its begin, its end and the last reading of the span as a program holds them

  module _ (begin : ℤ) (piece : PieceData) (b e l : ℤ) (is_b : b ≡ begin) (is_e : e ≡ pos piece.upto)
      (is_l : l ≡ claim.last) where
    pub cut_before : int_lt e b ≡ true → Some (Of Cut) ≡ piece_why claim xs out begin piece
    cut_before before = search rules

    pub cut_after : int_lt e b ≡ false → int_lt l e ≡ true → Some (Of Cut) ≡ piece_why claim xs out begin piece
    cut_after before after = search rules

    pub uncut : (read : Result (List Part) PieceWhy) → int_lt e b ≡ false → int_lt l e ≡ false
        → parts_after claim xs out (record { begin = b; end = e }) [] piece.entries ≡ read
        → parts_why claim out read ≡ piece_why claim xs out begin piece
    uncut read before after is = search rules

    pub uncut_piece : pos 0 ≤ℤ begin → claim.last <ℤ pos (2 ^ 64) → int_lt e b ≡ false → int_lt l e ≡ false
        → IsPiece b e
    uncut_piece begins ends before after = search rules

  -- ---- the pieces from one on

  last_test : (n : ℕ) (begin last : ℤ) → 0 < n → begin ≡ last → (nat_lt 0 n && int_eq begin last) ≡ true
  last_test n begin last some ends = grind (arith, ints, nat_tests)

  module _ (pieces : List Piece) (n : ℕ) (begin : ℤ) (whole : Option (ℕ × PieceWhy))
      (rest : pieces_why claim xs out n begin (map piece_data (drop n pieces)) ≡ whole) where
    module _ (held : List Piece) (piece : Piece) (same : held ≡ pieces) (is : piece ≡ get_or held n piece)
        (within : n < length held) where
      left : drop n pieces ≡ piece ∷ drop (n + 1) pieces
      left = grind (arith, ints, nat_tests, drop-cons)

      by_fault : (fault : Option PieceWhy) → piece_why claim xs out begin (piece_data piece) ≡ fault
          → whole ≡ first_of n fault
          (pieces_why claim xs out (n + 1) (pos piece.upto) (map piece_data (drop (n + 1) pieces)))
      by_fault fault is_fault =
          sym rest
          ∙ ap (λ (l : List Piece). pieces_why claim xs out n begin (map piece_data l)) left
          ∙ ap (λ (f : Option PieceWhy). first_of n f
          (pieces_why claim xs out (n + 1) (pos piece.upto) (map piece_data (drop (n + 1) pieces)))) is_fault

      pub stops_at : (why : PieceWhy) → piece_why claim xs out begin (piece_data piece) ≡ Some why
          → Some (n, why) ≡ whole
      stops_at why fails = sym (by_fault (Some why) fails)

      pub passes_to : (next : ℤ) → next ≡ pos piece.upto → piece_why claim xs out begin (piece_data piece) ≡ None
          → pieces_why claim xs out (n + 1) next (map piece_data (drop (n + 1) pieces)) ≡ whole
      passes_to next is_next passes = grind (arith, ints, nat_tests, common_steps, by_fault)

    -- none is left
    module _ (over : length pieces ≤ n) where
      at_end : (ends : Bool) → (nat_lt 0 n && int_eq begin claim.last) ≡ ends
          → whole ≡ (if ends then None else Some (n, Of Uncovered))
      at_end ends is =
          sym rest
          ∙ ap (λ (l : List Piece). pieces_why claim xs out n begin (map piece_data l)) (drop_of_length-le pieces over)
          ∙ ap (λ (t : Bool). if t then None else Some (n, Of Uncovered)) is

      pub covered : 0 < n → begin ≡ claim.last → None ≡ whole
      covered some ends = sym (at_end true (last_test n begin claim.last some ends))

      pub uncovered : (count : ℕ) → count ≡ n → (nat_lt 0 n && int_eq begin claim.last) ≡ false
          → Some (count, Of Uncovered) ≡ whole
      uncovered count same fails = ap (λ (k : ℕ). Some (k, Of Uncovered)) same ∙ sym (at_end false fails)

-- a set of the groups that a case names says of its pieces what the names do
pub same_out : (claim : ClaimData) (xs : List Exchange) (case : Case) (set : ℕ)
    → ((k : ℕ) → has set k ≡ names (case_data case) k)
    → pieces_why claim xs (has set) 0 claim.first (map piece_data case.pieces.items)
    ≡ case_fault claim xs (case_data case)
same_out claim xs case set same =
    λ i. pieces_why claim xs (λ k. same k i) 0 claim.first (map piece_data case.pieces.items)
