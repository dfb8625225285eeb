use Rattle.audit.proofs.Common.{are_samples, evidence_data, samples_in}
use Rattle.audit.specs.Order.{IsWhenIn}
use Rattle.audit.specs.Reading.{ticks_asked}
use Rattle.audit.proofs.RunSteps.{inputs_had, memory_as, read_as, refused_as}
use Rattle.audit.proofs.Showing.{of_evidence}
use Rattle.audit.proofs.engine.read_when.Goals as goal

pub returns-in-Ok-when_in-clause-has_read : goal.returns-in-Ok-when_in-clause-has_read
returns-in-Ok-when_in-clause-has_read g c sink sink' =
    read_as _ _ (rw c.in-Ok.is at c.read_inputs-capture.ensures.has_read sink sink')

pub returns-in-Ok-when_in-clause-when : goal.returns-in-Ok-when_in-clause-when
returns-in-Ok-when_in-clause-when g c =
    let e = evidence_data c.in-Ok.evidence in
    let r = ticks_asked c.args.asked.begin c.args.asked.end in
    let evidence = (rw c.in-Ok.is at c.read_inputs-capture.ensures.lawful).1 in
    let samples = are_samples e.collection.exchanges e.claim evidence.claim evidence.exchanges.each in
    of_evidence (IsWhenIn r c.in-Ok-when_in.when) e (record {
      when_is = c.in-Ok-when_in.ensures;
      holds = rw c.in-Ok-when_in.ensures
          (c.moments_hold.ensures.hold e.claim (samples_in e) r evidence.claim samples);
    }) _ _ _ (rw c.in-Ok.is at c.read_inputs-capture.ensures.of_bytes)

pub returns-in-Ok-clause-has_read : goal.returns-in-Ok-clause-has_read
returns-in-Ok-clause-has_read g c sink sink' =
    memory_as _ (rw c.in-Ok.is at c.read_inputs-capture.ensures.has_read sink sink')
    (inputs_had _ _ _ (rw c.in-Ok.is at c.read_inputs-capture.ensures.of_bytes))

pub returns-clause-has_read : goal.returns-clause-has_read
returns-clause-has_read g c sink sink' =
    refused_as _ (rw c.in-Err.is at c.read_inputs-capture.ensures.has_read sink sink')
