use Rattle.finder.proofs.Common.{◌≡◌, map, data_of as claim_data, IsBelowLimit, least_of, piece_hulls, hull_at}
use Rattle.finder.specs.Envelope.{piece_data}
use Rattle.finder.proofs.envelope.envelope_to.Given as goal

abbrev pub invariant-loop-number : goal.invariant-loop-number
invariant-loop-number g l = record {
  pieces : map piece_data l.pieces.items ≡ piece_hulls (g.S.SampleSource.samples l.samples) (claim_data l.claim)
      l.step_s l.number;
  least : l.least ≡ least_of (hull_at (g.S.SampleSource.samples l.samples) (claim_data l.claim) l.step_s) l.number;
  below : IsBelowLimit l.least;
}
