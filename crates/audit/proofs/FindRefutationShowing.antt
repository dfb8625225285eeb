-- What the outcome of a search for a refutation shows.
use Rattle.audit.proofs.Common.{◌≡◌, Option, Some, None, refl, sym, false, IfSome, IsNone, RefutationData, data_of as refutation_data, IsRefuted, Outcome, Yes, No, CourseContests, EvidenceData, GiveEvidence, ShowsOf, IsContestedOf, no_second, nothing_said, option_map, IsNearestRefutation, NoneIsRefuted}
use Rattle.certificate.specs.declared.refutation.Refutation.{Refutation}
use Rattle.audit.specs.FindRefutation.{IsIrrefutableOf, IsRefutableOf, IsFindRefutationOf, find_refutation, refutation_found_in, found_refutation_outcome}
use Rattle.audit.proofs.Excess.{contests}
use Rattle.audit.proofs.Showing.{of_evidence, of_inputs}
use Rattle.audit.specs.Refute.{AreContested}

-- what the outcome of what was found shows
pub search_shows : (e : EvidenceData) → ((refutation : RefutationData) →
    IsRefuted e.claim e.collection.exchanges refutation → IsContestedOf false refutation e) →
    (found : Option Refutation) → option_map refutation_data found ≡ refutation_found_in e →
    IfSome found (λ refutation. IsNearestRefutation e.claim e.collection.exchanges (refutation_data refutation)) →
    (IsNone found → NoneIsRefuted e.claim e.collection.exchanges) →
    IsFindRefutationOf e (found_refutation_outcome (option_map refutation_data found))
search_shows e standing (Some refutation) exact nearest none = record {
  refutation = refutation_data refutation;
  found_is = sym exact;
  nearest = nearest;
  stands = standing (refutation_data refutation) nearest.accepted;
}
search_shows e standing None exact nearest none = record { found_is = sym exact; none_accepted = none refl }

-- the bytes of any inputs that give the evidence show the same
pub search_shown : CourseContests → (e : EvidenceData) (outcome : Outcome) → IsFindRefutationOf e outcome →
    ShowsOf find_refutation no_second nothing_said e outcome
search_shown contested e Yes h claim second capture are =
    of_inputs e (AreContested (GiveEvidence IsRefutableOf)) (λ b f is. record {
      stands = record { evidence = e; evidence_is = is; holds = h };
      shown = contests contested false h.refutation e h.stands b f is;
    }) claim second capture are
search_shown contested e No h claim second capture are = of_evidence IsIrrefutableOf e h claim second capture are
