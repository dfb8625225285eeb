use Rattle.audit_text.proofs.Common.{data_of, exchange_shown, sample_line}
use Rattle.audit_text.proofs.Rows.{row_added, rows_done}
use Rattle.audit_text.proofs.Shown.{keeps_limits}
use Rattle.audit_text.proofs.samples.add_samples.Goals as goal

pub add_sample-requires : goal.add_sample-requires
add_sample-requires c =
    let lawful = keeps_limits exchange_shown c.args.exchanges.now c.loop-number.number _ c.loop-number-test.true
    c.to_exchange.result c.to_exchange.ensures _ c.requires.exchanges.each in
    record { exchange = record { servers = _; lawful = lawful }; listed = lawful.listed }

pub loop-number-preserved : goal.loop-number-preserved
loop-number-preserved c =
    row_added (sample_line c.args.style (data_of c.args.claim.now)) exchange_shown c.args.exchanges.now
    c.loop-number.number _ c.loop-number-test.true c.loop-number.text.items _ _
    (rw c.to_exchange.ensures at c.in_ok-add_sample.ensures) c.loop-number.invariant

pub returns : goal.returns
returns c =
    rows_done (sample_line c.args.style (data_of c.args.claim.now)) exchange_shown c.args.exchanges.now
    c.loop-number.number c.loop-number-test.false _ _ c.loop-number.invariant
