use Rattle.audit.proofs.laws.yes_by_covers_shows_its_headline.Goals as goal

pub returns : goal.returns
returns c text bytes claim collection certificate all claim_read' capture_read' accepted =
    let xs = collection.exchanges in
    let read = c.what_is_read_is_said.ensures text bytes (record { claim = claim; collection = collection }) all
    (record { claim_is = claim_read'; collection_is = capture_read' }) in
    let lawful = read.lawful in
    record {
      claim = claim;
      exchanges = xs;
      said = read.said;
      certificate = certificate;
      bounds = c.accepted_covers_bound_the_span.ensures claim xs certificate lawful.drift_in_range accepted;
      within = λ course fits observed.
          c.bounds_of_bytes_hold_in_nanoseconds.ensures text claim course claim_read'
          (c.covers_are_traceable.ensures.named claim xs certificate lawful read.kept.each accepted course fits
          observed);
    }
