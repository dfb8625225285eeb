-- What `settle`, `find` and `refute` say to a person: one line a fact.
use Rattle.std.specs.Prelude.{ℕ, ℤ, Option, Some, None, List, [], ◌∷◌, ◌++◌, codes, if◌then◌else◌, nat_lt}
use Rattle.audit_text.specs.Common.{line_of, Word, Named, High, Human, RefutationData, ClaimData, CoverCertificateData, Hull, Exchange}
use Rattle.audit_text.specs.BoundLines.{carried_line, claimed_line, wider_line}
use Rattle.audit_text.specs.CoverLines.{covers_text}
use Rattle.audit_text.specs.RefutationLines.{refutation_lines}
use Rattle.audit_text.specs.Settlement.{evidence_text, open_text}
use Rattle.audit_text.specs.SilentLines.{silent_lines}

-- what the answer is
abbrev pub answer_line : List ℕ → List ℕ
answer_line answer = line_of Human (Word answer ∷ [])

-- a certificate shows the claim: how many pieces it has, and the least bound that one carries
unfoldable pub shown_answer : ClaimData → ℕ → Option ℕ → List ℕ
shown_answer claim pieces least_ns =
    answer_line (codes "shown") ++ claimed_line claim.bound_ns ++
    line_of Human (Named (codes "pieces") pieces ∷ []) ++ carried_line least_ns

-- a certificate by covers shows the claim: what catches wrong servers, and the cases
unfoldable pub covers_answer : ClaimData → List Exchange → CoverCertificateData → List ℕ
covers_answer claim xs certificate =
    answer_line (codes "shown by covers") ++ claimed_line claim.bound_ns ++
    covers_text Human claim xs certificate

-- a certificate is found with pieces of so many seconds
unfoldable pub found_answer : ClaimData → ℕ → ℕ → List ℕ
found_answer claim step pieces =
    answer_line (codes "certificate found") ++ claimed_line claim.bound_ns ++
    line_of Human (Named (codes "pieces") pieces ∷ []) ++
    line_of Human (Named (codes "step") step ∷ Word (codes "s") ∷ [])

-- what is answered by a refutation, and what that says
unfoldable pub refutation_answer : List ℕ → ClaimData → RefutationData → List ℕ
refutation_answer answer claim refutation =
    answer_line answer ++ refutation_lines claim refutation

-- there is no evidence: how many groups have a sample, and which servers have none
unfoldable pub evidence_answer : ClaimData → List Exchange → ℕ → List ℕ
evidence_answer claim xs groups = evidence_text Human claim groups ++ silent_lines claim xs

-- how many minimal covers were looked at, if there may be others
unfoldable pub covers_line : ℕ → List ℕ
covers_line covers = if nat_lt covers 64 then [] else line_of Human
    (Named (codes "covers") covers ∷ Word (codes "looked at, there may be others") ∷ [])

-- how far the clock is off at most, if that is known
unfoldable pub most_line : Option ℤ → List ℕ
most_line (Some most) =
    line_of Human (Word (codes "off at most") ∷ High most ∷ Word (codes "ms") ∷ [])
most_line None = []

-- the claim stays open: where, how much wider the least bound is, how far the clock is off at most,
-- and whether covers were left out
unfoldable pub open_answer : ClaimData → ℤ → ℤ → Hull → ℕ → Option ℤ → Option ℕ → List ℕ
open_answer claim begin end hull covers most least_ns =
    open_text Human begin end hull ++ claimed_line claim.bound_ns ++ carried_line least_ns ++
    wider_line claim.bound_ns least_ns ++ most_line most ++ covers_line covers
