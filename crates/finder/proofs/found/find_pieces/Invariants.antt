use Rattle.finder.proofs.Common.{◌≡◌, ℕ, ◌<◌, true, map, piece_data, data_of as claim_data, pieces_from, passes}
use Rattle.finder.proofs.found.find_pieces.Given as goal

abbrev pub invariant-loop-number : goal.invariant-loop-number
invariant-loop-number g l = record {
  pieces : map piece_data l.pieces.items ≡ pieces_from (g.S.SampleSource.samples l.samples) (claim_data l.claim)
      l.step_s 0 l.number;
  passed : (k : ℕ) → k < l.number → passes (g.S.SampleSource.samples l.samples) (claim_data l.claim) l.step_s k ≡ true;
}
