use Rattle.std.proofs.Common.{◌+◌, ◌≤◌, refl, arith}
use Rattle.pcap_reader.proofs.Ranges.{range_rest, range_lent}
use Rattle.pcap_reader.proofs.buffered.Buffered.consume.Goals as goal

pub returns-clause-rest : goal.returns-clause-rest
returns-clause-rest g c =
    let s = c.args.self.now in
    let fits : s.start + c.args.count ≤ s.end = omega arith in
    range_rest s.buffer.items s.buffer.items s.start (s.start + c.args.count) s.end s.end c.args.count refl refl refl
    fits

pub returns-clause-last : goal.returns-clause-last
returns-clause-last g c n k whole =
    let s = c.args.self.now in
    range_lent s.buffer.items s.buffer.items s.start (s.start + c.args.count) s.end n k refl (omega arith) (omega arith)
