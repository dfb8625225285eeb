use Rattle.pcap_reader.proofs.Common.{◌≤◌, ◌∙◌, length, arith, CountsBytes-front}
use Rattle.pcap_reader.proofs.Intake.{Pulls-more}
use Rattle.pcap_reader.proofs.Ranges.{front_pulled}
use Rattle.pcap_reader.proofs.refill.pull_until.Goals as goal

pub loop-held-preserved : goal.loop-held-preserved
loop-held-preserved g c =
    let fits : c.in_ok-count.count ≤ length c.pull.new.into = c.in_ok-count.ensures.within in
    record {
      at_most = omega arith;
      unfailed = c.in_ok-count.ensures.counts_fault ∙ c.loop-held.invariant.unfailed;
      pulls = Pulls-more _ _ _ _ _ _ _ c.loop-held.invariant.pulls c.in_ok-count.ensures.known.0
          (CountsBytes-front _ _ _ c.pull.new.into fits c.in_ok-count.ensures.counts_bytes)
          (front_pulled c.loop-held.held _ c.in_ok-count.count c.loop-held.buffer c.pull.new.into (omega arith) fits);
    }
