use Rattle.audit.specs.Evidence.{evidence_data}
use Rattle.audit.proofs.LeastShowing.{least_shows}
use Rattle.audit.proofs.least_line.least_if.Goals as goal

pub returns-clause-least : goal.returns-clause-least
returns-clause-least c =
    let e = evidence_data c.args.evidence.now in
    least_shows e
    (c.courses_leave_no_hull_empty.ensures e.claim e.collection.exchanges c.requires.claim c.requires.exchanges.each)
    _ c.samples_of.ensures.samples c.in_ok-found.found c.in_ok-found.ensures
