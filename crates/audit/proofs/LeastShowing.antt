-- What the least bound that a certificate carries shows.
use Rattle.std.proofs.Common.{rules}
use Rattle.audit.proofs.Common.{◌≡◌, List, Option, Ok, subst, IfSome_then, Sample, LeastCarried, EvidenceData, samples_in, IsLeastBoundOf, SomeCourse}
use Rattle.finder.specs.Carried.{FindsLeastBound, IsNeverEmpty}

module _ (e : EvidenceData) (never : SomeCourse e.claim e.collection.exchanges → IsNeverEmpty (samples_in e) e.claim)
  where
    pub least_shows : (samples : List Sample) → samples ≡ samples_in e → (found : Option LeastCarried)
        → FindsLeastBound samples e.claim (Ok found) → IsLeastBoundOf e found
    least_shows samples same found finds =
        let here = subst (λ (s : List Sample). FindsLeastBound s e.claim (Ok found)) same finds in
        search (rules, IfSome_then, never)
