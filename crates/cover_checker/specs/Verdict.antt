-- The verdict on a certificate by covers: the first test that fails.
use Rattle.std.specs.Prelude.{◌≡◌, ℕ, ◌+◌, ◌-◌, ◌<◌, ℤ, pos, int_lt, ◌||◌, ◌&&◌, nat_lt, Bool, if◌then◌else◌, List, [], ◌∷◌, length, Option, None, Some, Result, Ok, Err, All}
use Rattle.std.specs.List.{AllWithin, HoldsAt}
use Rattle.cover_checker.specs.Common.{int_eq, option_map, hull_fault, piece_hull, size_of, CaseData, ClaimData, CoverCertificateData, Cut, Exchange, Part, PieceData, Stretch, Uncovered}
use Rattle.cover_checker.specs.Acceptance.{IsAccepted}
use Rattle.cover_checker.specs.Case.{cases_why, first_of}
use Rattle.cover_checker.specs.Conflict.{AreAnswered, IsConflict, IsUnanswered, names}
use Rattle.cover_checker.specs.Entry.{parts_after}
use Rattle.cover_checker.specs.declared.verdict.CoverVerdict.{CoverVerdict}
use Rattle.cover_checker.specs.declared.verdict.CoverVerdict.TheVariants.{Yes, NoConflict, NoCase, BadCase, Unanswered, BadPiece}
use Rattle.cover_checker.specs.declared.verdict.PieceWhy.{PieceWhy}
use Rattle.cover_checker.specs.declared.verdict.PieceWhy.TheVariants.{Of}

-- ---- pieces

-- why what the entries of a piece say doesn't show the bound
abbrev pub parts_why : ClaimData → (ℕ → Bool) → Result (List Part) PieceWhy → Option PieceWhy
parts_why claim out (Err why) = Some why
parts_why claim out (Ok parts) = option_map Of
    (hull_fault claim.bound (piece_hull claim.groups (claim.false_max - size_of claim out) parts))

-- the first test that fails in a piece that begins here
abbrev pub piece_why :
    ClaimData → List Exchange → (ℕ → Bool) → ℤ → PieceData → Option PieceWhy
piece_why claim xs out begin piece =
    let stretch : Stretch = record { begin = begin; end = pos piece.upto } in
    if int_lt stretch.end begin || int_lt claim.last stretch.end then Some (Of Cut) else
    parts_why claim out (parts_after claim xs out stretch [] piece.entries)

-- the first piece that fails, with its number, of those from number k on, of which the first begins
-- here; after the last comes whether they are the span
abbrev pub pieces_why : ClaimData → List Exchange → (ℕ → Bool) → ℕ → ℤ → List PieceData →
    Option (ℕ × PieceWhy)
pieces_why claim xs out k begin [] =
    if nat_lt 0 k && int_eq begin claim.last then None else Some (k, Of Uncovered)
pieces_why claim xs out k begin (piece ∷ pieces) =
    first_of k (piece_why claim xs out begin piece)
    (pieces_why claim xs out (k + 1) (pos piece.upto) pieces)

-- of a case
abbrev pub case_fault : ClaimData → List Exchange → CaseData → Option (ℕ × PieceWhy)
case_fault claim xs case = pieces_why claim xs (names case) 0 claim.first case.pieces

-- the first case with such a piece, of those from number k on
abbrev pub case_faults :
    ClaimData → List Exchange → ℕ → List CaseData → Option (ℕ × (ℕ × PieceWhy))
case_faults claim xs k [] = None
case_faults claim xs k (case ∷ cases) =
    first_of k (case_fault claim xs case) (case_faults claim xs (k + 1) cases)

-- ---- the certificate

-- the pair with this number is the first that is no conflict
pub record IsFirstNoConflict (claim : ClaimData) (xs : List Exchange) (pairs : List (ℕ × ℕ))
    (k : ℕ) : Type 0 where
  pub within : k < length pairs
  pub earlier : AllWithin (IsConflict claim xs) pairs 0 k
  pub fails : HoldsAt (λ pair. ¬ (IsConflict claim xs pair)) pairs k

-- what a verdict says of the certificate
abbrev pub IsVerdict : ClaimData → List Exchange → CoverCertificateData → CoverVerdict → Type 0
IsVerdict claim xs certificate Yes = IsAccepted claim xs certificate
IsVerdict claim xs certificate (NoConflict k) = IsFirstNoConflict claim xs certificate.conflicts k
IsVerdict claim xs certificate NoCase =
    All (IsConflict claim xs) certificate.conflicts × (certificate.cases ≡ [])
IsVerdict claim xs certificate (BadCase k why) =
    All (IsConflict claim xs) certificate.conflicts
    × (cases_why claim [] certificate.cases ≡ Some (k, why))
IsVerdict claim xs certificate Unanswered =
    All (IsConflict claim xs) certificate.conflicts × (0 < length certificate.cases)
    × (cases_why claim [] certificate.cases ≡ None)
    × ((is_in : ℕ → Bool) × IsUnanswered claim xs certificate is_in)
IsVerdict claim xs certificate (BadPiece k piece why) =
    All (IsConflict claim xs) certificate.conflicts × (0 < length certificate.cases)
    × (cases_why claim [] certificate.cases ≡ None) × AreAnswered claim xs certificate
    × (case_faults claim xs 0 certificate.cases ≡ Some (k, (piece, why)))
