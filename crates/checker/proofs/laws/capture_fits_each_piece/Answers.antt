use Rattle.checker.proofs.PieceFit.{fits_piece}
use Rattle.checker.proofs.laws.capture_fits_each_piece.Goals as goal

pub returns : goal.returns
returns c = fits_piece
