use Rattle.report.proofs.Common.{is_err, rules, IsRefusal}
use Rattle.report.proofs.Closing.{closes_ok, closes_outside, closes_refused, closes_short, closes_unfinished}
use Rattle.report.proofs.output.Output.close.Goals as goal

pub returns-in-Ok-finish-clause-closes : goal.returns-in-Ok-finish-clause-closes
returns-in-Ok-finish-clause-closes g c =
    let sends = c.in-Ok-flush.ensures in
    let finishes = c.in-Ok-finish.ensures in
    rw c.in-Ok.is (closes_ok _ _ _ c.in-Ok.field-0 (record { puts = sends.puts_nothing; empty = sends.empty })
    (record { kept = finishes.known; closed = finishes.closes; counts = finishes.counts_fault }))

pub returns-in-Err-finish-clause-closes : goal.returns-in-Err-finish-clause-closes
returns-in-Err-finish-clause-closes g c =
    let sends = c.in-Ok-flush.ensures in
    let finishes = c.in-Err-finish.ensures in
    rw c.in-Ok.is (closes_unfinished _ _ _ c.in-Ok.field-0 (record { puts = sends.puts_nothing; empty = sends.empty })
    (record { kept = finishes.known; closed = finishes.closes; counts = finishes.counts_fault }))

pub returns-in-Err-flush-clause-closes : goal.returns-in-Err-flush-clause-closes
returns-in-Err-flush-clause-closes g c = closes_short _ _ _ _ (rw c.in-Ok.is tt) c.in-Err-flush.ensures.puts_nothing

pub returns-in-Device-clause-closes : goal.returns-in-Device-clause-closes
returns-in-Device-clause-closes g c =
    let finishes = c.finish-in-Device.ensures in
    rw c.in-Err.is (closes_outside _ _ c.in-Err.fault (is_err c.finish-in-Device.result) c.in-Device.is
    (record { kept = finishes.known; closed = finishes.closes; counts = finishes.counts_fault }))

pub returns-in-Ok-flush-2-clause-closes : goal.returns-in-Ok-flush-2-clause-closes
returns-in-Ok-flush-2-clause-closes g c =
    let refusal : IsRefusal c.in-Err.fault = search rules in
    let sends = c.in-Ok-flush-2.ensures in
    let finishes = c.finish-in-Ok-flush-2.ensures in
    rw c.in-Err.is (closes_refused _ _ _ c.in-Err.fault (is_err c.finish-in-Ok-flush-2.result) refusal
    (record { puts = sends.puts_nothing; empty = sends.empty })
    (record { kept = finishes.known; closed = finishes.closes; counts = finishes.counts_fault }))

pub returns-in-Err-flush-2-clause-closes : goal.returns-in-Err-flush-2-clause-closes
returns-in-Err-flush-2-clause-closes g c =
    let refusal : IsRefusal c.in-Err.fault = search rules in
    closes_short _ _ c.args.ran c.in-Err-flush-2.failed (rw c.in-Err.is refusal) c.in-Err-flush-2.ensures.puts_nothing
