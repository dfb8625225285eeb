use Rattle.audit.proofs.Common.{evidence_data}
use Rattle.audit.specs.Common.{times_data}
use Rattle.audit.proofs.CoversShowing.{are_held_at, held_shown, reports_are}
use Rattle.audit.proofs.Showing.{told_whole}
use Rattle.audit.proofs.question.readings_by_covers.ReadingsByCoversQuestion.tell.Goals as goal

pub returns : goal.returns
returns g c =
    let e = evidence_data c.args.evidence.now in
    let said = times_data c.args.second.now in
    let found = c.args.found.now.items in
    told_whole (reports_are c.args.style said found c.requires.found)
    (held_shown e said (are_held_at e said found c.requires.found c.requires.finding.over))
    (c.publish_text.ensures _
    (rw (c.as_slice.ensures.value, c.as_slice-2.ensures.value) at c.hulls_text-text.ensures))
