use Rattle.audit.proofs.Common.{◌≡◌, ◌≤◌, ◌*◌, Plain, put_count, output_state, sink_name, IsGoing, samples_text, evidence_data}
use Rattle.audit.proofs.SampleLines.{left_after}
use Rattle.audit.proofs.sample_output.put_samples.Given as goal

abbrev pub invariant-loop-number : goal.invariant-loop-number
invariant-loop-number g l =
    let state = output_state g.S.Sink.state in
    let e = evidence_data l.evidence in
    record {
      same_sink : sink_name l.out ≡ sink_name l.fn.out;
      few : put_count (state l.out) ≤ 512 * l.number;
      going : IsGoing (samples_text Plain e.claim e.collection) (left_after e.claim l.evidence.held l.number)
          (state l.fn.out).sink (state l.out);
    }
