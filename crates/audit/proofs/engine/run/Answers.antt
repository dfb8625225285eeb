use Rattle.audit.specs.Question.{asked_of}
use Rattle.audit.proofs.Showing.{told_fault}
use Rattle.audit.proofs.RunSteps.{refused_runs, shown_of, told_runs}
use Rattle.audit.proofs.engine.run.Goals as goal

pub returns-in-Ok-find-clause-runs : goal.returns-in-Ok-find-clause-runs
returns-in-Ok-find-clause-runs g c =
    told_runs c.bytes_tell_what_they_show.ensures
    (asked_of (g.Q.Question.asks c.args.question) g.Q.Second.SecondInput.kind c.args.style)
    (c.read_inputs-capture.ensures.has_read _ _) c.in-Ok.is
    (rw c.in-Ok.is at c.read_inputs-capture.ensures.of_bytes) c.in-Ok-find.ensures.found _ c.tell.ensures

pub returns-in-Ok-find-clause-shows : goal.returns-in-Ok-find-clause-shows
returns-in-Ok-find-clause-shows g c =
    shown_of (asked_of (g.Q.Question.asks c.args.question) g.Q.Second.SecondInput.kind c.args.style) _ _ _
    (rw c.in-Ok.is at c.read_inputs-capture.ensures.of_bytes) _ c.tell.ensures

pub returns-in-Ok-clause-runs : goal.returns-in-Ok-clause-runs
returns-in-Ok-clause-runs g c =
    let unfound = c.in-Err-find.ensures.fault in
    told_runs c.bytes_tell_what_they_show.ensures
    (asked_of (g.Q.Question.asks c.args.question) g.Q.Second.SecondInput.kind c.args.style)
    (c.read_inputs-capture.ensures.has_read _ _) c.in-Ok.is
    (rw c.in-Ok.is at c.read_inputs-capture.ensures.of_bytes) unfound.found _
    (told_fault unfound.of_making (unfound.is_made _) c.publish.ensures)

pub returns-clause-runs : goal.returns-clause-runs
returns-clause-runs g c =
    refused_runs (asked_of (g.Q.Question.asks c.args.question) g.Q.Second.SecondInput.kind c.args.style)
    (c.read_inputs-capture.ensures.has_read _ _) _ c.in-Err.is
    (rw c.in-Err.is at c.read_inputs-capture.ensures.unwritten)
    (rw c.in-Err.is at c.read_inputs-capture.ensures.refused) _ c.publish-in-Err.ensures
