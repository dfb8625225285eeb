-- What a settled claim shows.
use Rattle.std.proofs.Common.{rules}
use Rattle.audit.proofs.Common.{All, evidence_data, exchange_shown, ◌≡◌, ℕ, ◌<◌, ◌⊎◌, ⊎_elim, List, length, map, get_or, Err, subst, AllPairs, get_or-map, length-map, slice_get_within, AnswerData, CertificateData, CoverCertificateData, SameRequest, IsAcceptedByCovers, IsAnswerOf, IsAnsweredAs, IsVerdictOn, IsYesByCovers, FindFault, SettledData, HasTooManyPieces, IsOpenForReason, IsSettledAs, MayStayOpen, refl, verdict_on, EvidenceData, samples_in, IsSettlementOf, IsSettledOf}
use Rattle.audit.specs.declared.evidence.Evidence.{Evidence}
use Rattle.audit.proofs.SettlementText.{enough_with}
use Rattle.audit.proofs.Showing.{memory_unfound}
use Rattle.feasibility.specs.PairMarks.{conflict_data}
use Rattle.feasibility.specs.declared.shown_conflicts.Conflict.{Conflict}
use Rattle.finder.specs.declared.fault.FindFault.TheVariants as finds
use Rattle.cover_finder.specs.Answer as answers
use Rattle.finder.specs.Settlement as settles

module _ (e : EvidenceData) (agree : AllPairs SameRequest e.collection.exchanges)
    (traced : (certificate : CertificateData) →
    IsVerdictOn e.claim (samples_in e) certificate (verdict_on certificate e)) where
  pub settled_of : (settled : SettledData) → IsSettledAs e.claim e.collection.exchanges settled
      → IsOpenForReason e.claim e.collection.exchanges (answers.of_finder settled) → IsSettledOf e settled
  settled_of (settles.shown certificate) h reason =
      let is = traced certificate in search (rules, is.yes, is.by_pieces)
  settled_of (settles.refuted refutation) h reason = search rules
  settled_of (settles.left_open begin end hull covers most) h reason = record { left = h; reason = reason refl }
  settled_of settled h reason = h

  pub answer_of : ((certificate : CoverCertificateData) →
      IsAcceptedByCovers e.claim e.collection.exchanges certificate → IsYesByCovers certificate e) →
      (answer : AnswerData) → IsAnsweredAs e.claim e.collection.exchanges answer
      → IsOpenForReason e.claim e.collection.exchanges answer → IsAnswerOf e answer
  answer_of traced_by (answers.of_finder settled) h reason = settled_of settled h reason
  answer_of traced_by (answers.shown_by_covers certificate) h reason =
      record { yes = traced_by certificate h.carried.accepted; alone = h; agree = agree }

-- why nothing is known shows what it says
pub fault_found : (e : EvidenceData) (fault : FindFault)
    → (fault ≡ finds.Memory) ⊎ ((fault ≡ finds.TooManyPieces) × HasTooManyPieces e.claim e.collection.exchanges)
    → (fault ≡ finds.TooManyPieces → MayStayOpen e.claim e.collection.exchanges)
    → IsSettlementOf e (Err fault)
fault_found e finds.Memory h reason = tt
fault_found e finds.TooManyPieces h reason =
    ⊎_elim (λ memory. absurd cc) (λ too_many. (too_many.1, reason refl)) h

pub ruleset settlement_found = (enough_with, memory_unfound)

-- conflicts name exchanges of the list
pub conflicts_within : (e : Evidence) (conflicts : List Conflict) →
    IsSettledOf (evidence_data e) (settles.fitted_by_none (map conflict_data conflicts)) →
    All (λ (c : Conflict). (c.pair.low < length e.held.exchanges.items)
    × (c.pair.high < length e.held.exchanges.items)) conflicts
conflicts_within e conflicts fitted k d below =
    let xs = (evidence_data e).collection.exchanges in
    let is = get_or-map conflict_data conflicts k d (conflict_data d) below in
    let first = rw is at (fitted.all.first k (conflict_data d) (rw (length-map conflicts conflict_data) below)) in
    subst (λ (n : ℕ). ((get_or conflicts k d).pair.low < n) × ((get_or conflicts k d).pair.high < n))
    (length-map e.held.exchanges.items exchange_shown) (
      slice_get_within xs _ first.is.low first.is.low_stands,
      slice_get_within xs _ first.is.high first.is.high_stands,
    )
