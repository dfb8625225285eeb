use Rattle.std.proofs.Common.{length-append}
use Rattle.audit.proofs.Common.{◌∙◌, arith, length, [], length-map, exchange_shown, Yes, put_count, output_state, going_start, going_more, going_short, going_done, samples_text, evidence_data}
use Rattle.audit_text.proofs.Shown.{keeps_limits}
use Rattle.audit.proofs.SampleLines.{all_left, counts_left, next_line}
use Rattle.audit.proofs.sample_output.put_samples.Goals as goal

pub loop-number-init : goal.loop-number-init
loop-number-init g c = grind (arith, evidence_data, output_state, samples_text, put_count, all_left, going_start)

pub write_sample_line-requires : goal.write_sample_line-requires
write_sample_line-requires g c =
    let servers = length c.args.evidence.now.claim.servers.items in
    let lawful = keeps_limits exchange_shown c.deref-held-items.result.now c.loop-number.number _
    c.loop-number-test.true c.to_exchange.result c.to_exchange.ensures servers
    (rw c.deref-held-items.ensures.value c.requires.lawful.exchanges.each) in
    record { exchange = record { servers = servers; lawful = lawful }; listed = lawful.listed }

pub returns-in-Err-clause-puts : goal.returns-in-Err-clause-puts
returns-in-Err-clause-puts g c = going_short c.loop-number.invariant.going _ Yes c.in-Err.fault c.in-Err.ensures.puts

pub loop-number-preserved : goal.loop-number-preserved
loop-number-preserved g c =
    let e = c.args.evidence.now in
    let part = c.as_bytes.result.now in
    let held = c.deref-held-items.ensures.value in
    let within = rw held at c.loop-number-test.true in
    let parted = next_line (evidence_data e).claim e.held c.loop-number.number _ c.to_exchange.result part within
    (rw held at c.to_exchange.ensures) (c.as_bytes.ensures.text ∙ c.write_sample_line.ensures.text) in
    let few = c.loop-number.invariant.few in
    let more = c.in_default.ensures.puts.count in
    let short = c.as_bytes.ensures.at_most in
    let counted = length-append part [] in
    let many = length-map e.held.exchanges.items exchange_shown in
    record {
      same_sink = c.put.ensures.same_sink ∙ c.loop-number.invariant.same_sink;
      few = omega (arith, few, more, short, counted);
      going = going_more c.loop-number.invariant.going part _ parted c.in_default.ensures.puts
          (omega (arith, few, more, short, counted, within, many, c.requires.lawful.exchanges.few));
    }

pub returns-in-Ok-clause-puts : goal.returns-in-Ok-clause-puts
returns-in-Ok-clause-puts g c =
    let e = c.args.evidence.now in
    let part = c.as_bytes-2.result.now in
    let held = c.deref-held-items.ensures.value in
    let parted = counts_left (evidence_data e).claim e.held c.loop-number.number part
    (rw held at c.loop-number-test.false) (c.as_bytes-2.ensures.text ∙ c.write_counts_line.ensures.text) in
    let few = c.loop-number.invariant.few in
    let more = c.in-Ok.ensures.puts.count in
    let short = c.as_bytes-2.ensures.at_most in
    let counted = length-append part [] in
    let ended = rw held at c.loop-number.auto.number-end in
    let many = length-map e.held.exchanges.items exchange_shown in
    going_done Yes (going_more c.loop-number.invariant.going part [] parted c.in-Ok.ensures.puts
    (omega (arith, few, more, short, counted, ended, many, c.requires.lawful.exchanges.few)))

pub returns-in-Err-put-clause-puts : goal.returns-in-Err-put-clause-puts
returns-in-Err-put-clause-puts g c =
    going_short c.loop-number.invariant.going _ Yes c.in-Err-put.fault c.in-Err-put.ensures.puts
