use Rattle.pairing.proofs.Common.{refl, [], ◌∷◌, ◌++◌, arith, err_from_is_err_and, most_records, data_of, Record}
use Rattle.pairing.proofs.ReadingSteps.{read-push, leaves-unfailed, leaves-failed, refused-exact, gathered-room, HasRoom-weaker}
use Rattle.pairing.proofs.GatheringSteps.{gathered-push}
use Rattle.pairing.proofs.collection.gather.Goals as goal

pub take-requires-clause-room : goal.take-requires-clause-room
take-requires-clause-room g c =
    HasRoom-weaker c.records.gathering.counts most_records 1 (omega arith)
    (gathered-room (data_of c.args.claim.now) _ _ _ _ c.records.invariant.gathered c.records.invariant.read.given.few)

pub records-preserved : goal.records-preserved
records-preserved g c =
    let step = rw c.in-Ok-Some.field-0-is at c.in-Ok-Some.ensures in
    let bytes = rw c.bytes.ensures at c.read_message-message.ensures.bytes in
    let said = rw c.bytes.ensures at c.read_message-message.ensures.message in
    let done = c.records.invariant.records in
    let read : Record =
    record { head = c.in-Ok-Some.head; bytes = (g.S.RecordSource.state c.next_record.new.self).lent } in
    record {
      records = done ++ read ∷ [];
      read = read-push _ _ _ done c.in-Ok-Some.head c.records.invariant.read step bytes;
      gathered = rw (c.in_ok-take-in-Ok-Some.ensures.keeps, c.in_ok-take-in-Ok-Some.ensures.holds, c.in_ok-take-in-Ok-Some.ensures.counted, said)
          (gathered-push (data_of c.args.claim.now) done read _ _ _ c.records.invariant.gathered);
    }

pub returns-in_err-take-in-Ok-Some-clause-leaves : goal.returns-in_err-take-in-Ok-Some-clause-leaves
returns-in_err-take-in-Ok-Some-clause-leaves g c =
    let step = rw c.in-Ok-Some.field-0-is at c.in-Ok-Some.ensures in
    let p = err_from_is_err_and c.from_residual.result c.from_residual.ensures.1 in
    rw (p.1, p.2) (leaves-unfailed _ _ _ _ _ _ c.records.invariant.read step tt refl refl)

pub returns-in-Ok-None-clause-leaves : goal.returns-in-Ok-None-clause-leaves
returns-in-Ok-None-clause-leaves g c =
    let step = rw c.in-Ok-None.field-0-is at c.in-Ok-None.ensures in
    leaves-unfailed _ _ _ _ _ _ c.records.invariant.read step tt refl refl

pub returns-in-Err-clause-fault : goal.returns-in-Err-clause-fault
returns-in-Err-clause-fault g c =
    refused-exact (data_of c.args.claim.now) _ _ _ _ _ c.records.invariant.read c.in-Err.ensures

pub returns-in-Err-clause-leaves : goal.returns-in-Err-clause-leaves
returns-in-Err-clause-leaves g c = leaves-failed _ _ _ _ _ c.records.invariant.read c.in-Err.ensures
