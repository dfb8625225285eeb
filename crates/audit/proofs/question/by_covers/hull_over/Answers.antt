use Rattle.audit.proofs.Common.{evidence_data}
use Rattle.audit.specs.Common.{reading_over}
use Rattle.audit.proofs.question.by_covers.hull_over.Goals as goal

pub returns-clause-held : goal.returns-clause-held
returns-clause-held c =
    let e = evidence_data c.args.evidence.now in
    let lawful = c.requires.evidence.claim in
    let each = c.requires.evidence.exchanges.each in
    let hull = c.hull-hull.result in
    let is = rw c.ticks-stretch.ensures.value at c.hull-hull.ensures e.collection.exchanges c.requires.finder in
    let piece = rw c.ticks-stretch.ensures.value at c.ticks-stretch.ensures.piece in
    let held = c.hulls_by_covers_hold_the_error.ensures e.claim e.collection.exchanges _ hull lawful each is in
    record {
      hull = is;
      error = held;
      ends = c.ends_are_nearly_attained.ensures e.claim e.collection.exchanges _ hull lawful each piece is;
      time = λ course fits observed. c.errors_tell_true_time.ensures.told course
          (reading_over c.args.begin c.args.end) hull observed (held course fits tt observed);
    }
