use Rattle.std.proofs.Common.{◌≡◌, pos, ◌≤ℤ◌, ◌<ℤ◌, ◌^◌, map, drop}
use Rattle.certificate.specs.Certificate.{piece_data}
use Rattle.claim_file.specs.Claim.{data_of as claim_data}
use Rattle.feasibility.specs.Members.{has}
use Rattle.cover_checker.specs.Verdict.{pieces_why}
use Rattle.cover_checker.proofs.piece.case_fault.Given as goal

abbrev pub invariant-loop-number : goal.invariant-loop-number
invariant-loop-number g l = record {
  rest : pieces_why (claim_data l.claim) (map g.X.ToExchange.shown l.exchanges) (has l.out) l.number l.begin
      (map piece_data (drop l.number l.case.pieces.items))
      ≡ pieces_why (claim_data l.claim) (map g.X.ToExchange.shown l.exchanges) (has l.out) 0 l.claim.first
      (map piece_data l.case.pieces.items);
  from_1970 : pos 0 ≤ℤ l.begin;
  in_range : l.begin <ℤ pos (2 ^ 64);
}
