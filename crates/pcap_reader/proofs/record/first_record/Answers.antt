use Rattle.pcap_reader.proofs.Common.{◌∙◌, ap, sym, drop, drop-drop, Some, err_from_is_err_and, TornRecord}
use Rattle.pcap_reader.proofs.Prefix.{head_shown, fault_shown, record_whole, record_torn}
use Rattle.pcap_reader.proofs.record.first_record.Goals as goal

pub returns-in_err-head-clause-fault : goal.returns-in_err-head-clause-fault
returns-in_err-head-clause-fault c =
    let p = err_from_is_err_and c.from_residual.result c.from_residual.ensures.1 in
    rw (p.1, p.2) (fault_shown _ _ _ _ _ c.in_err-head.ensures.fault)

pub returns-in_err-check_whole-clause-fault : goal.returns-in_err-check_whole-clause-fault
returns-in_err-check_whole-clause-fault c =
    let p = err_from_is_err_and c.from_residual-in_err-check_whole.result c.from_residual-in_err-check_whole.ensures.1
    in
    let h = c.in_ok-head.ensures in
    let a = c.args in
    let head_is = head_shown a.format a.number a.place a.bytes.now c.in_ok-head.head h.shows in
    let torn = record_torn a.format a.number a.place a.bytes.now c.in_ok-head.head h.few h.long head_is
    c.in_err-check_whole.ensures.cut_off in
    rw (p.1, p.2) (torn ∙ ap (λ n. Some (TornRecord n)) (sym h.place)
    ∙ ap Some (sym c.in_err-check_whole.ensures.torn))

pub returns-clause-stands : goal.returns-clause-stands
returns-clause-stands c =
    let h = c.in_ok-head.ensures in
    let a = c.args in
    let head_is = head_shown a.format a.number a.place a.bytes.now c.in_ok-head.head h.shows in
    record_whole a.format a.number a.place a.bytes.now c.in_ok-head.head h.few h.long head_is
    c.in_ok-check_whole.ensures.whole

pub returns-clause-head : goal.returns-clause-head
returns-clause-head c = (head_shown _ _ _ _ _ c.in_ok-head.ensures.shows).1

pub returns-clause-rest : goal.returns-clause-rest
returns-clause-rest c =
    let n = c.in_ok-head.head.captured in
    c.split_at-2.ensures.back ∙ (ap (drop n) c.split_at.ensures.back ∙ drop-drop n 16 c.args.bytes.now)
