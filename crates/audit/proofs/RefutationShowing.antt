-- What it shows whether a refutation stands.
use Rattle.std.proofs.Common.{rules}
use Rattle.audit.proofs.Common.{Bool, Result, IfOk, IfOk-weaker, refutation_read, List, ℕ, true, false, AllPairs, RefutationData, SameRequest, SettlesWithDrift, Outcome, Yes, No, CourseContests, EvidenceData, ShowsOf, GiveRefutation, IsContestedOf, IsSettledFor, IsUncontestedOf, refute, refuted_outcome, refutation_said, refutation_second, Settles}
use Rattle.std.specs.declared.alloc.AllocError.{AllocError}
use Rattle.audit.proofs.Excess.{contests}
use Rattle.audit.proofs.Showing.{of_inputs, of_second}
use Rattle.audit.specs.Refute.{AreContested}

module _ (refutation : RefutationData) (e : EvidenceData) (agree : AllPairs SameRequest e.collection.exchanges) where
  -- of one whose error never changes
  pub judgement_shows : (stands : Bool) → Settles e.claim e.collection.exchanges refutation stands →
      IsSettledFor false refutation e (refuted_outcome stands)
  judgement_shows true judged = search rules
  judgement_shows false judged = search rules

  -- of one whose error may drift
  drift_judgement_shows : (stands : Bool) → SettlesWithDrift e.claim e.collection.exchanges refutation stands →
      IsSettledFor true refutation e (refuted_outcome stands)
  drift_judgement_shows true judged = search rules
  drift_judgement_shows false judged = search rules

  pub drift_shows : (answer : Result Bool AllocError) →
      IfOk answer (SettlesWithDrift e.claim e.collection.exchanges refutation) →
      IfOk answer (λ stands. IsSettledFor true refutation e (refuted_outcome stands))
  drift_shows answer = IfOk-weaker answer _ _ drift_judgement_shows

-- the bytes of any inputs that say the refutation and give the evidence show the same
pub refutation_shown : CourseContests → (drift : Bool) (about : List ℕ) (refutation : RefutationData) (e : EvidenceData)
    (outcome : Outcome) → IsSettledFor drift refutation e outcome →
    ShowsOf (refute drift about) refutation_second (refutation_said refutation) e outcome
refutation_shown contested drift about refutation e Yes h claim second capture are =
    of_inputs e (AreContested (GiveRefutation (IsContestedOf drift) second.remaining)) (λ b f is. record {
      stands = of_second refutation_said (λ t u same. cc) refutation refutation_read (IsContestedOf drift) e h
          second.remaining are.second_is b f is;
      shown = contests contested drift refutation e h b f is;
    }) claim second capture are
refutation_shown contested drift about refutation e No h claim second capture are =
    of_inputs e (GiveRefutation (IsUncontestedOf drift) second.remaining) (of_second refutation_said (λ t u same. cc)
    refutation refutation_read (IsUncontestedOf drift) e h second.remaining are.second_is) claim second capture are

pub ruleset refutation_settled = (judgement_shows, drift_shows)
