use Rattle.finder.proofs.Common.{◌≡◌, map, take, piece_data, data_of, pieces_over}
use Rattle.finder.proofs.fewest.certificate_over.Given as goal

abbrev pub invariant-loop-number : goal.invariant-loop-number
invariant-loop-number g l = map piece_data l.pieces.items
    ≡ pieces_over (g.S.SampleSource.samples l.fn.samples) (data_of l.claim) l.claim.first (take l.number l.ends)
