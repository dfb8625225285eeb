use Rattle.std.proofs.Common.{◌-◌, ◌≤◌, length, map}
use Rattle.certificate.specs.Certificate.{piece_data}
use Rattle.cover_finder.specs.Common.{claim_data}
use Rattle.cover_finder.specs.Reach.{OfSearch}
use Rattle.cover_finder.proofs.ReachPieces.{AreMade, AreShown}
use Rattle.cover_finder.proofs.reach.Search.longest_pieces.Given as goal

abbrev pub invariant-pieces : goal.invariant-pieces
invariant-pieces l = record {
  few : length l.pieces.items ≤ l.left;
  made : AreMade (claim_data l.self.claim.now) l.begin (map piece_data l.pieces.items);
  shown : OfSearch l.self (λ claim xs out. AreShown claim xs out (map piece_data l.pieces.items));
}

abbrev pub decreases-pieces : goal.decreases-pieces
decreases-pieces l = l.left - length l.pieces.items
