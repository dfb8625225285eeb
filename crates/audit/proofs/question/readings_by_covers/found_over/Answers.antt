use Rattle.std.proofs.lemmas.List.{take_all}
use Rattle.std.proofs.lemmas.List.Elements.{All-push}
use Rattle.audit.proofs.Common.{◌∙◌, ap, evidence_data}
use Rattle.audit.specs.ByCovers.{IsHeldOver}
use Rattle.reading_time.specs.declared.reading.Reading.{Reading}
use Rattle.audit.proofs.CoversShowing.{held_there, read_one_more}
use Rattle.audit.proofs.question.readings_by_covers.found_over.Goals as goal

pub loop-number-preserved : goal.loop-number-preserved
loop-number-preserved c =
    let found = c.loop-number.found.items in
    let before = c.loop-number.invariant in
    let one = c.hull_for.result in
    rw c.in_ok-push.ensures.items (
      read_one_more c.args.readings.now c.loop-number.number _ found one c.loop-number-test.true before.0
          (c.hull_for.ensures.begin ∙ ap (λ (r : Reading). r.begin) c.index-readings-number.is)
          (c.hull_for.ensures.end ∙ ap (λ (r : Reading). r.end) c.index-readings-number.is),
      All-push (IsHeldOver (evidence_data c.args.evidence.now)) found one before.1 c.hull_for.ensures.held,
    )

pub hull_for-requires-clause-hulls : goal.hull_for-requires-clause-hulls
hull_for-requires-clause-hulls c =
    rw c.as_slice.ensures.value (held_there (evidence_data c.args.evidence.now) c.in_ok-hulls.hulls.items
    c.loop-number.number c.in_ok-hulls.ensures.held)

pub returns : goal.returns
returns c =
    let all = rw (take_all c.loop-number.number c.args.readings.now c.loop-number-test.false)
    at c.loop-number.invariant in
    record { of = all.0; held = all.1 }
