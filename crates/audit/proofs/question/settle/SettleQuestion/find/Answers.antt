use Rattle.audit.proofs.Common.{Err, Finding, inr, refl, answer_data, evidence_data, no_finding, samples_in, IsAnswerOf, settle_report}
use Rattle.audit.proofs.SettlementShowing.{answer_of, fault_found}
use Rattle.audit.proofs.Showing.{unfound_as}
use Rattle.audit.proofs.question.settle.SettleQuestion.find.Goals as goal

pub returns-in-Ok-least_if-clause-found : goal.returns-in-Ok-least_if-clause-found
returns-in-Ok-least_if-clause-found c =
    let e = evidence_data c.args.evidence.now in
    let answer = answer_data c.in-Ok.answer in
    let settles = rw c.deref.ensures.value at c.in-Ok.ensures in
    let holds : IsAnswerOf e answer = answer_of e c.requires.evidence.exchanges.agree
    (λ certificate. c.verdicts_are_traceable.ensures e.claim (samples_in e) certificate c.requires.evidence.claim
    (c.samples_of_exchanges_keep_limits.ensures.of_claim e.claim e.collection.exchanges c.requires.evidence.claim
    c.requires.evidence.exchanges.each)) (λ certificate accepted. record {
      accepted = accepted;
      whole = c.covers_are_traceable.ensures.all e.claim e.collection.exchanges certificate
          c.requires.evidence.claim c.requires.evidence.exchanges.each accepted;
      named = c.covers_are_traceable.ensures.named e.claim e.collection.exchanges certificate
          c.requires.evidence.claim c.requires.evidence.exchanges.each accepted;
    }) answer settles.answered settles.stays_open in
    record { settled = holds; least = c.in-Ok-least_if.ensures.least; fits = tt; over = tt }

pub returns-in-Err-clause-fault : goal.returns-in-Err-clause-fault
returns-in-Err-clause-fault c =
    let e = evidence_data c.args.evidence.now in
    let fault = c.in-Err.fault in
    let finding : Finding = record no_finding { settled = Err fault } in
    let settles = rw c.deref.ensures.value at c.in-Err.ensures in
    rw c.run_fault_of.ensures (unfound_as _ _ finding (λ style. settle_report style c.args.self.about.now finding e) _
    fault (inr refl) (record {
      settled = fault_found e fault settles.refused settles.too_many;
      least = tt;
      fits = tt;
      over = tt;
    })
    (λ style. refl) (λ style. refl))
