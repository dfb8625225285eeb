use Rattle.std.proofs.Common.{subst}
use Rattle.cover_finder.specs.Common.{Stretch, claim_data, holds}
use Rattle.cover_finder.specs.Hull.{AreWhole}
use Rattle.cover_finder.proofs.reach.Search.hull.Goals as goal

pub returns : goal.returns
returns c xs tables none =
    let claim = claim_data c.args.self.now.claim.now in
    let parts = c.said_over-said.result.parts.items in
    record {
      parts = parts;
      whole = subst (λ (s : Stretch). AreWhole claim xs (holds c.args.self.now.out) s parts) c.stretch_of.ensures.exact
          (c.said_over-said.ensures.whole xs tables);
      is = rw (c.as_slice.ensures.value, c.as_slice-2.ensures.value, c.false_besides-few.ensures)
          at c.piece_hull.ensures;
    }
