use Rattle.std.proofs.Common.{refl}
use Rattle.audit.specs.Common.{Plain}
use Rattle.audit.specs.Question.{asked_of}
use Rattle.audit.proofs.Showing.{told_fault}
use Rattle.audit.proofs.RunSteps.{given_up, refused_runs, told_runs, told_twice}
use Rattle.audit.proofs.engine.run_twice.Goals as goal

pub returns-in-Ok-tell : goal.returns-in-Ok-tell
returns-in-Ok-tell g c =
    told_twice c.bytes_tell_what_they_show.ensures
    (asked_of (g.Q.Question.asks c.args.question) g.Q.Second.SecondInput.kind c.args.style)
    (c.read_inputs-capture.ensures.has_read _ _) c.in-Ok.is
    (rw c.in-Ok.is at c.read_inputs-capture.ensures.of_bytes) c.in-Ok-find.ensures.found _ _
    (rw c.in-Ok-tell.is at c.tell.ensures) c.tell-told.ensures

pub returns-in-Ok-find : goal.returns-in-Ok-find
returns-in-Ok-find g c =
    given_up (asked_of (g.Q.Question.asks c.args.question) g.Q.Second.SecondInput.kind c.args.style) _
    c.in-Err-tell.fault _ refl
    (told_runs c.bytes_tell_what_they_show.ensures
    (asked_of (g.Q.Question.asks c.args.question) g.Q.Second.SecondInput.kind Plain)
    (c.read_inputs-capture.ensures.has_read _ _) c.in-Ok.is
    (rw c.in-Ok.is at c.read_inputs-capture.ensures.of_bytes) c.in-Ok-find.ensures.found _
    (rw c.in-Err-tell.is at c.tell.ensures))

pub returns-in-Ok : goal.returns-in-Ok
returns-in-Ok g c =
    let unfound = c.in-Err-find.ensures.fault in
    given_up (asked_of (g.Q.Question.asks c.args.question) g.Q.Second.SecondInput.kind c.args.style) _
    c.in-Err-find.fault _ c.publish.ensures.stays
    (told_runs c.bytes_tell_what_they_show.ensures
    (asked_of (g.Q.Question.asks c.args.question) g.Q.Second.SecondInput.kind Plain)
    (c.read_inputs-capture.ensures.has_read _ _) c.in-Ok.is
    (rw c.in-Ok.is at c.read_inputs-capture.ensures.of_bytes) unfound.found _
    (told_fault unfound.of_making (unfound.is_made _) c.publish.ensures))

pub returns : goal.returns
returns g c =
    given_up (asked_of (g.Q.Question.asks c.args.question) g.Q.Second.SecondInput.kind c.args.style) _
    c.in-Err.fault _ c.publish-in-Err.ensures.stays
    (refused_runs (asked_of (g.Q.Question.asks c.args.question) g.Q.Second.SecondInput.kind Plain)
    (c.read_inputs-capture.ensures.has_read _ _) _ c.in-Err.is
    (rw c.in-Err.is at c.read_inputs-capture.ensures.unwritten)
    (rw c.in-Err.is at c.read_inputs-capture.ensures.refused) _ c.publish-in-Err.ensures)
