-- What settles a claim: one of five answers, each with what proves it.
--
-- If no course of events fits the exchanges, something that the claim grants isn't true in this
-- capture, and no more is asked. If no more groups have a sample than may be false, the capture
-- says nothing about the clock. Otherwise a certificate shows the claim, or a refutation contests
-- it, or neither was found, and no certificate is accepted.
use Rattle.std.specs.Prelude.{◌≡◌, ◌⊎◌, ◌<◌, ◌≤◌, ℕ, ℤ, true, unsigned_abs, Option, IfSome, List, [], ◌∷◌, length, map, AllPairs, Result, IfOk, IfErr}
use Rattle.finder.specs.Common.{CertificateData, certificate_data, max_pieces, RefutationData, refutation_data, ClaimData, Hull, SameRequest, Exchange, Course, Fits, HoldsError, IsObservedIn, IsWithin, samples_of, verdict_of, Yes, ShownConflict, AreAllConflicts, NoFewHoldAnEnd, SomeCourse, SomeCourseAt, IsRefutedWithDrift, HasDriftCourse, SettlesWithDrift, IsNoEvidence, count_with_exchange, conflict_data}
use Rattle.finder.specs.Fewest.{HasFewest, IsOfLongest, IsStuck, IsTooLong, NoneIsAccepted, NoneOfFewIsAccepted, stretch_over}
use Rattle.finder.specs.Leeway.{AreHeld}
use Rattle.finder.specs.NearestRefutation.{NoneIsRefuted}
use Rattle.finder.specs.declared.fault.FindFault.{FindFault}
use Rattle.finder.specs.declared.fault.FindFault.TheVariants.{TooManyPieces, Memory}
use Rattle.finder.specs.declared.settlement.Search.{Search}
use Rattle.finder.specs.declared.settlement.Search.TheVariants as search
use Rattle.finder.specs.declared.settlement.Settled.{Settled}
use Rattle.finder.specs.declared.settlement.Settled.TheVariants as the

-- a certificate, a refutation, all conflicts, how few groups have a sample, or the tick at which
-- the certificate of fewest pieces stops, with its hull, how many covers were looked at, and how
-- many ticks the clock is off at most, if that's known
pub data SettledData : Type 0 where
  shown : CertificateData → SettledData
  refuted : RefutationData → SettledData
  fitted_by_none : List ShownConflict → SettledData
  no_evidence : ℕ → SettledData
  left_open : ℤ → ℤ → Hull → ℕ → Option ℤ → SettledData

-- what a value of the program says
abbrev pub settled_data : Settled → SettledData
settled_data (the.Shown certificate) = shown (certificate_data certificate)
settled_data (the.Refuted refutation) = refuted (refutation_data refutation)
settled_data (the.NothingFits conflicts) = fitted_by_none (map conflict_data conflicts.items)
settled_data (the.NoEvidence groups) = no_evidence groups
settled_data (the.Open begin end hull covers most) = left_open begin end hull covers most

module _ (claim : ClaimData) (xs : List Exchange) where
  -- More groups have a sample than may be false, so that the capture is evidence.
  abbrev pub IsHeard : Type 0
  IsHeard = claim.false_max < count_with_exchange claim xs

  -- At each reading a course is observed that fits, with one moment for the exchanges of a request.
  abbrev pub IsFitted : Type 0
  IsFitted = (reading : ℤ) → SomeCourseAt claim xs reading

  -- The certificate shows the claim: it is accepted, no accepted one has fewer pieces, and courses
  -- fit the exchanges, so that it says something of some course.
  pub record IsShownBy (certificate : CertificateData) : Type 0 where
    pub courses : IsFitted
    pub longest : IsOfLongest (samples_of xs claim) claim certificate
    pub accepted : verdict_of (samples_of xs claim) claim certificate ≡ Yes
    pub fewest : HasFewest (samples_of xs claim) claim certificate
    pub few : length certificate.pieces ≤ max_pieces

  -- The refutation contests it: a course fits in which the clock is off by its error, and no
  -- certificate is accepted. Without evidence every error would have such a course.
  pub record IsContestedBy (refutation : RefutationData) : Type 0 where
    pub heard : IsHeard
    pub accepted : IsRefutedWithDrift claim xs refutation
    pub course : AllPairs SameRequest xs → HasDriftCourse claim xs refutation
    pub none_accepted : NoneIsAccepted (samples_of xs claim) claim

  -- No course fits. These are all conflicts, and no groups that are few enough to be false have an
  -- end of each.
  pub record IsFittedByNone (conflicts : List ShownConflict) : Type 0 where
    pub no_course : ¬ (SomeCourse claim xs)
    pub all : AreAllConflicts claim xs conflicts
    pub unaccounted : NoFewHoldAnEnd claim conflicts

  -- This many groups have a sample, and no more than may be false: at every reading the error may
  -- be anything, and no certificate is accepted.
  pub record IsUnheard (groups : ℕ) : Type 0 where
    pub nothing_said : IsNoEvidence claim xs groups
    pub none_accepted : NoneIsAccepted (samples_of xs claim) claim

  -- in no course that fits is the clock off by more than so many ticks when it shows a reading of
  -- the span
  abbrev pub NoneIsBeyond : ℤ → Type 0
  NoneIsBeyond most = (course : Course) → Fits claim xs course
      → IsObservedIn course claim.first claim.last → IsWithin course most

  -- A course fits, and no certificate is accepted, though the capture is evidence, and no
  -- refutation whose error never changes. Where the longest pieces have come to, the next tick
  -- isn't shown; in every course that fits, the error lies in its hull at every moment whose
  -- reading lies there. At both its ends the bound holds in every course that fits, but for
  -- rounding, and for courses with the groups of another cover false if there are so many. What
  -- the clock is off by at most is so at every reading of the span.
  pub record IsLeftOpen (begin end : ℤ) (hull : Hull) (covers : ℕ) (most : Option ℤ) : Type 0 where
    pub heard : IsHeard
    pub courses : IsFitted
    pub stuck : IsStuck (samples_of xs claim) claim begin end hull
    pub none_accepted : NoneIsAccepted (samples_of xs claim) claim
    pub none_refuted : NoneIsRefuted claim xs
    pub held : HoldsError claim (samples_of xs claim) (stretch_over begin end) hull
    pub bounded :
        AreHeld claim xs (unsigned_abs begin ∷ unsigned_abs end ∷ []) covers
    pub within : IfSome most NoneIsBeyond

  abbrev pub IsSettledAs : SettledData → Type 0
  IsSettledAs (shown certificate) = IsShownBy certificate
  IsSettledAs (refuted refutation) = IsContestedBy refutation
  IsSettledAs (fitted_by_none conflicts) = IsFittedByNone conflicts
  IsSettledAs (no_evidence groups) = IsUnheard groups
  IsSettledAs (left_open begin end hull covers most) = IsLeftOpen begin end hull covers most

  -- A course fits, and as many pieces as a certificate may have don't reach the span's end: none
  -- that may be written is accepted. Neither is a refutation whose error never changes; whether
  -- another was looked for, no clause says.
  pub record HasTooManyPieces : Type 0 where
    pub heard : IsHeard
    pub courses : IsFitted
    pub too_long : IsTooLong (samples_of xs claim) claim
    pub none_accepted : NoneOfFewIsAccepted (samples_of xs claim) claim
    pub none_refuted : NoneIsRefuted claim xs

  -- What a search for a refutation has come to: this one stands, or none whose error never changes
  -- does, and the bound holds at these readings, with so many minimal covers looked at; and no
  -- error lies further beyond it than the tick that needs most, if that is known.
  abbrev pub IsSearched : List ℕ → Search → Type 0
  IsSearched readings (search.Found refutation) =
      SettlesWithDrift claim xs (refutation_data refutation) true
  IsSearched readings (search.Nothing covers most) =
      NoneIsRefuted claim xs × AreHeld claim xs readings covers × IfSome most NoneIsBeyond

  -- what a search for what settles a claim answers
  pub record Settles (result : Result Settled FindFault) : Type 0 where
    pub settled : IfOk result (λ found. IsSettledAs (settled_data found))
    pub refused : IfErr result (λ fault.
        (fault ≡ Memory) ⊎ ((fault ≡ TooManyPieces) × HasTooManyPieces))
