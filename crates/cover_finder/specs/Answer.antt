-- What settles a claim, if certificates of either form are looked for.
use Rattle.std.specs.Prelude.{◌≡◌, ◌⊎◌, ⊤, Bool, false, true, List, Result, Ok, Err, IfOk, IfErr}
use Rattle.cover_finder.specs.Common.{certificate_data, ClaimData, CoverCertificateData, Exchange, FindFault, HasTooManyPieces, IsFitted, IsHeard, IsSettledAs, Memory, NoneOfFewIsAccepted, SettledData, TooManyPieces, samples_of, settled_data}
use Rattle.cover_finder.specs.Open.{MayStayOpen}
use Rattle.cover_finder.specs.Search.{IsCarriedBy}
use Rattle.cover_finder.specs.declared.answer.Answer.{Answer}
use Rattle.cover_finder.specs.declared.answer.Answer.TheVariants as the
use Rattle.finder.specs.Settlement.{shown, refuted, fitted_by_none, no_evidence, left_open}
use Rattle.finder.specs.declared.settlement.Settled.{Settled}

-- an answer without covers, or a certificate by covers
pub data AnswerData : Type 0 where
  of_finder : SettledData → AnswerData
  shown_by_covers : CoverCertificateData → AnswerData

-- what a value of the program says
abbrev pub answer_data : Answer → AnswerData
answer_data (the.OfFinder settled) = of_finder (settled_data settled)
answer_data (the.ShownByCovers certificate) = shown_by_covers (certificate_data certificate)

-- whether this leaves the claim open
abbrev pub is_open : SettledData → Bool
is_open (left_open begin end hull covers most) = true
is_open (shown certificate) = false
is_open (refuted refutation) = false
is_open (fitted_by_none conflicts) = false
is_open (no_evidence groups) = false

-- whether it is left open, or refused since it has too many pieces
abbrev pub is_unsettled : Result Settled FindFault → Bool
is_unsettled (Ok settled) = is_open (settled_data settled)
is_unsettled (Err TooManyPieces) = true
is_unsettled (Err Memory) = false

module _ (claim : ClaimData) (xs : List Exchange) where
  -- More groups have a sample than may be false, at each reading a course is observed that fits,
  -- and no certificate of pieces is accepted that may be written.
  pub record IsBeyondPieces : Type 0 where
    pub heard : IsHeard claim xs
    pub courses : IsFitted claim xs
    pub none_accepted : NoneOfFewIsAccepted (samples_of xs claim) claim

  -- The certificate by covers shows the claim, and no certificate of pieces does. Courses fit, so
  -- that it says something of some course.
  pub record IsShownByCoversAlone (certificate : CoverCertificateData) : Type 0 where
    pub carried : IsCarriedBy claim xs certificate
    pub beyond : IsBeyondPieces

  abbrev pub IsAnsweredAs : AnswerData → Type 0
  IsAnsweredAs (of_finder settled) = IsSettledAs claim xs settled
  IsAnsweredAs (shown_by_covers certificate) = IsShownByCoversAlone certificate

  -- an answer that leaves the claim open has a reason
  abbrev pub IsOpenForReason : AnswerData → Type 0
  IsOpenForReason (of_finder settled) = is_open settled ≡ true → MayStayOpen claim xs
  IsOpenForReason (shown_by_covers certificate) = ⊤

  -- what a search for what settles a claim answers
  pub record Answers (result : Result Answer FindFault) : Type 0 where
    pub answered : IfOk result (λ found. IsAnsweredAs (answer_data found))
    pub refused : IfErr result (λ fault.
        (fault ≡ Memory) ⊎ ((fault ≡ TooManyPieces) × HasTooManyPieces claim xs))
    -- it stays open for a reason only, and has too many pieces for one only
    pub stays_open : IfOk result (λ found. IsOpenForReason (answer_data found))
    pub too_many : IfErr result (λ fault. fault ≡ TooManyPieces → MayStayOpen claim xs)
