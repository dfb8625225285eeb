-- The verdict on a certificate by covers as tests, one after another. What each says as a fact
-- stands in specs/Verdict.
use Rattle.std.specs.Prelude.{ℕ, zero, suc, ◌+◌, ◌==◌, Bool, true, false, not, ◌&&◌, ◌||◌, nat_le, if◌then◌else◌, List, [], ◌∷◌, length, Option, None, Some, slice_get}
use Rattle.cover_checker.specs.Common.{list_any, list_all, are_compatible, is_possible, CaseData, ClaimData, CoverCertificateData, Exchange, group_of, high_mark, low_mark, size_of}
use Rattle.cover_checker.specs.Case.{cases_why}
use Rattle.cover_checker.specs.Verdict.{case_faults}
use Rattle.cover_checker.specs.declared.verdict.CaseWhy.{CaseWhy}
use Rattle.cover_checker.specs.declared.verdict.CoverVerdict.{CoverVerdict}
use Rattle.cover_checker.specs.declared.verdict.CoverVerdict.TheVariants.{Yes, NoConflict, NoCase, BadCase, Unanswered, BadPiece}
use Rattle.cover_checker.specs.declared.verdict.PieceWhy.{PieceWhy}

-- ---- conflicts

-- of these two exchanges, if both are there, one has a false server
abbrev pub are_apart : ClaimData → ℕ × ℕ → Option Exchange → Option Exchange → Bool
are_apart claim pair (Some low) (Some high) =
    not (are_compatible claim.drift_ppb (low_mark claim.reading low) (high_mark claim.reading high))
    || ((pair.0 == pair.1) && not (is_possible claim.reading low))
are_apart claim pair low high = false

-- the number of the first pair that is no conflict, of those from number k on
abbrev pub no_conflict_from : ClaimData → List Exchange → ℕ → List (ℕ × ℕ) → Option ℕ
no_conflict_from claim xs k [] = None
no_conflict_from claim xs k (pair ∷ pairs) =
    if are_apart claim pair (slice_get xs pair.0) (slice_get xs pair.1)
    then no_conflict_from claim xs (k + 1) pairs else Some k

-- ---- sets of groups

-- some set of numbers below n passes a test
unfoldable pub some_set : ℕ → ((ℕ → Bool) → Bool) → Bool
some_set zero test = test (λ k. false)
some_set (suc n) test = some_set n test || some_set n (λ set. test (λ k. (k == n) || set k))

-- the set has the group of one of these two exchanges, if both are there
abbrev pub has_end : ClaimData → (ℕ → Bool) → Option Exchange → Option Exchange → Bool
has_end claim is_in (Some x) (Some y) = is_in (group_of claim x) || is_in (group_of claim y)
has_end claim is_in x y = true

-- these groups are few, have an end of each conflict, and hold all groups of no case
abbrev pub are_unanswered :
    ClaimData → List Exchange → CoverCertificateData → (ℕ → Bool) → Bool
are_unanswered claim xs certificate is_in =
    nat_le (size_of claim is_in) claim.false_max
    && (list_all (λ pair. has_end claim is_in (slice_get xs pair.0) (slice_get xs pair.1))
    certificate.conflicts
    && not (list_any (λ case. list_all is_in case.groups) certificate.cases))

-- ---- the verdict

abbrev pub said_of_piece : Option (ℕ × (ℕ × PieceWhy)) → CoverVerdict
said_of_piece None = Yes
said_of_piece (Some fault) = BadPiece fault.0 fault.1.0 fault.1.1

abbrev pub said_of_case : Option (ℕ × CaseWhy) → CoverVerdict → CoverVerdict
said_of_case None next = next
said_of_case (Some fault) next = BadCase fault.0 fault.1

abbrev pub said_of_conflict : Option ℕ → CoverVerdict → CoverVerdict
said_of_conflict None next = next
said_of_conflict (Some k) next = NoConflict k

-- the first test that fails of those of cases
abbrev pub said_of_cases : ClaimData → List Exchange → CoverCertificateData → List CaseData
    → CoverVerdict
said_of_cases claim xs certificate [] = NoCase
said_of_cases claim xs certificate (case ∷ cases) =
    said_of_case (cases_why claim [] (case ∷ cases))
    (if some_set (length claim.groups) (are_unanswered claim xs certificate) then Unanswered else
    said_of_piece (case_faults claim xs 0 (case ∷ cases)))

-- the first test that fails
unfoldable pub verdict_of : ClaimData → List Exchange → CoverCertificateData → CoverVerdict
verdict_of claim xs certificate =
    said_of_conflict (no_conflict_from claim xs 0 certificate.conflicts)
    (said_of_cases claim xs certificate certificate.cases)
