-- The report of `find --refutation`: a refutation, or that none is found; and what its outcome
-- says.
use Rattle.std.specs.Prelude.{◌≡◌, ℕ, false, List, ◌++◌, codes, Option, Some, None}
use Rattle.audit.specs.Common.{FeedState, RefutationData, refutation_text, ClaimData, IsNearestRefutation, NoneIsRefuted, nearest_refutation, Outcome, Yes, No, whole_text, Style, Plain, refutation_answer, no_refutation_text}
use Rattle.audit.specs.Evidence.{EvidenceData, GiveEvidence, OfClaimAndCapture}
use Rattle.audit.specs.Refute.{AreContested, IsContestedOf}
use Rattle.audit.specs.Question.{ByOutcome, QuestionData}

-- what is found, in words: a refutation, for a program its compact text and a line feed, and for a
-- person what it says; or that there is none
unfoldable pub found_refutation_text : Option RefutationData → Style → ClaimData → List ℕ
found_refutation_text (Some refutation) Plain claim = refutation_text refutation ++ codes "\n"
found_refutation_text (Some refutation) style claim =
    refutation_answer (codes "refutation found") claim refutation
found_refutation_text None style claim = no_refutation_text style

-- the outcome: yes if there is a refutation
abbrev pub found_refutation_outcome : Option RefutationData → Outcome
found_refutation_outcome (Some refutation) = Yes
found_refutation_outcome None = No

-- what is found in the exchanges of a capture
abbrev pub refutation_found_in : EvidenceData → Option RefutationData
refutation_found_in e = nearest_refutation e.claim e.collection.exchanges

-- A refutation is found of this evidence, with the error nearest above the bound, or else nearest
-- below it on the other side; and it stands.
pub record IsRefutableOf (e : EvidenceData) : Type 0 where
  pub refutation : RefutationData
  pub found_is : refutation_found_in e ≡ Some refutation
  pub nearest : IsNearestRefutation e.claim e.collection.exchanges refutation
  pub stands : IsContestedOf false refutation e

-- None is found of it, and none is accepted.
pub record IsIrrefutableOf (e : EvidenceData) : Type 0 where
  pub found_is : refutation_found_in e ≡ None
  pub none_accepted : NoneIsRefuted e.claim e.collection.exchanges

-- At a yes a refutation is found, which stands, and that a course breaks the claim is shown in
-- relations alone, if the bytes of claim and capture are known.
abbrev pub IsRefutable : FeedState → FeedState → Type 0
IsRefutable claim capture =
    OfClaimAndCapture claim capture (AreContested (GiveEvidence IsRefutableOf))

-- At a no none is accepted, if these bytes are known.
abbrev pub IsIrrefutable : FeedState → FeedState → Type 0
IsIrrefutable claim capture = OfClaimAndCapture claim capture (GiveEvidence IsIrrefutableOf)

-- what the outcome of the search shows of evidence
abbrev pub IsFindRefutationOf : EvidenceData → Outcome → Type 0
IsFindRefutationOf e = ByOutcome (IsRefutableOf e) (IsIrrefutableOf e)

-- is there a refutation of the claim?
abbrev pub find_refutation : QuestionData
find_refutation = record {
  report = λ style finding said e.
      whole_text (found_refutation_text (refutation_found_in e) style e.claim)
      (found_refutation_outcome (refutation_found_in e));
  Shows = λ claim second capture.
      ByOutcome (IsRefutable claim capture) (IsIrrefutable claim capture);
}
