use Rattle.claim_file.specs.Claim.{data_of as claim_data}
use Rattle.finder.proofs.Answer.{found_few}
use Rattle.finder.proofs.SpanPieces.{IsPieceCount-piece_count_of}
use Rattle.finder.proofs.found.find_over.Goals as goal

pub returns : goal.returns
returns g c =
    let claim = claim_data c.args.claim.now in
    let step = c.args.step_s in
    let counted = IsPieceCount-piece_count_of claim.first claim.last step c.args.claim.now.lawful.span_forward
    c.requires.step.some in
    found_few (g.S.SampleSource.samples c.args.samples) claim step c.args.claim.now.lawful c.requires.samples counted
    (rw c.piece_count-count.ensures at c.if-count.false) c.in_ok-found.found c.in_ok-found.ensures
