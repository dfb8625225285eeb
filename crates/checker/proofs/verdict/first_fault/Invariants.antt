use Rattle.checker.proofs.Common.{◌≡◌, ◌^◌, pos, ◌≤ℤ◌, ◌<ℤ◌, map, drop, data_of as claim_data, piece_data, verdict_of, verdict_from}
use Rattle.certificate.specs.Certificate.{data_of as certificate_data}
use Rattle.checker.proofs.verdict.first_fault.Given as goal

abbrev pub invariant-loop-number : goal.invariant-loop-number
invariant-loop-number g l = record {
  rest : verdict_from (g.S.SampleSource.samples l.samples) (claim_data l.claim) l.number l.begin
      (map piece_data (drop l.number l.certificate.pieces.items))
      ≡ verdict_of (g.S.SampleSource.samples l.samples) (claim_data l.claim) (certificate_data l.certificate);
  from_1970 : pos 0 ≤ℤ l.begin;
  in_range : l.begin <ℤ pos (2 ^ 64);
}
