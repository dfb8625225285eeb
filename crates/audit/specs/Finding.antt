-- What a finding shows of the evidence, and of the bytes that give it.
use Rattle.std.specs.Prelude.{◌≡◌, ◌⊎◌, ℕ, List, All, Result, Ok, Err, IfSome}
use Rattle.audit.specs.Common.{FeedState, SettlesFit, HasTooManyPieces, MayStayOpen, AnswerData, FindFault, TooManyPieces}
use Rattle.finder.specs.declared.fault.FindFault.TheVariants.{Memory}
use Rattle.audit.specs.ByCovers.{IsHeldOver}
use Rattle.audit.specs.Evidence.{EvidenceData, GiveEvidence, OfClaimAndCapture}
use Rattle.audit.specs.Least.{IsLeastBoundOf}
use Rattle.audit.specs.Question.{Finding}
use Rattle.audit.specs.Settle.{IsAnswerFrom, IsAnswerOf}

-- ---- what it shows of evidence

-- what settles the claim; or a course fits, there would be too many pieces, and there is a reason
-- why nothing by covers settles it
abbrev pub IsSettlementOf : EvidenceData → Result AnswerData FindFault → Type 0
IsSettlementOf e (Ok answer) = IsAnswerOf e answer
IsSettlementOf e (Err TooManyPieces) = HasTooManyPieces e.claim e.collection.exchanges
    × MayStayOpen e.claim e.collection.exchanges
IsSettlementOf e (Err Memory) = Unit {0}

pub record IsFindingOf (e : EvidenceData) (finding : Finding) : Type 0 where
  pub settled : IsSettlementOf e finding.settled
  pub least : IfSome finding.least (IsLeastBoundOf e)
  pub fits : IfSome finding.fits (SettlesFit e.claim e.collection.exchanges)
  pub over : IfSome finding.over (All (IsHeldOver e))

-- ---- what it shows of bytes

abbrev pub IsSettlementFrom : Result AnswerData FindFault → List ℕ → List ℕ → Type 0
IsSettlementFrom (Ok answer) claim capture = IsAnswerFrom answer claim capture
IsSettlementFrom (Err fault) claim capture =
    (fault ≡ Memory) ⊎ GiveEvidence (λ e. IsSettlementOf e (Err fault)) claim capture

pub record IsFindingFrom (finding : Finding) (claim capture : List ℕ) : Type 0 where
  pub settled : IsSettlementFrom finding.settled claim capture
  pub least : IfSome finding.least (λ found.
      GiveEvidence (λ e. IsLeastBoundOf e found) claim capture)
  pub fits : IfSome finding.fits (λ told.
      GiveEvidence (λ e. SettlesFit e.claim e.collection.exchanges told) claim capture)
  pub over : IfSome finding.over (λ found.
      GiveEvidence (λ e. All (IsHeldOver e) found) claim capture)

-- the same of inputs, if their bytes are known
abbrev pub ShowsFinding : Finding → FeedState → FeedState → Type 0
ShowsFinding finding claim capture = OfClaimAndCapture claim capture (IsFindingFrom finding)
