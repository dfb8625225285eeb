use Rattle.pcap_reader.proofs.Common.{◌<◌, ◌≤◌, ◌++◌, length, ◌∙◌, arith, length-append, MatchResult-weaker, most_records}
use Rattle.pcap_reader.proofs.RecordFault.{fault_at_most, fault_at_short, fault_at_head}
use Rattle.pcap_reader.proofs.Prefix.{head_fault_front}
use Rattle.pcap_reader.proofs.record.first_head.Goals as goal

pub returns-then-number-ge-MAX_RECORDS-clause-fault : goal.returns-then-number-ge-MAX_RECORDS-clause-fault
returns-then-number-ge-MAX_RECORDS-clause-fault c rest end = fault_at_most _ _ _ _ (omega arith)

pub returns-then-bytes-lt-RECORD_HEADER-clause-fault : goal.returns-then-bytes-lt-RECORD_HEADER-clause-fault
returns-then-bytes-lt-RECORD_HEADER-clause-fault c rest end = grind (arith, length-append, fault_at_short)

pub returns-clause-fault : goal.returns-clause-fault
returns-clause-fault c =
    MatchResult-weaker c.read_head.result c.read_head.ensures (λ head h. tt)
    (λ fault h rest end.
    let few : c.args.number < most_records = omega arith in
    let long : 16 ≤ length c.args.bytes.now = omega arith in
    let all : 16 ≤ length (c.args.bytes.now ++ rest) = omega (arith, length-append c.args.bytes.now rest) in
    fault_at_head _ _ _ _ fault few all (head_fault_front c.args.format c.args.place c.args.bytes.now rest long ∙ h))
