use Rattle.std.proofs.Common.{pos, subst, arith}
use Rattle.std.proofs.lemmas.Int.{ints}
use Rattle.cover_finder.specs.Common.{Stretch, claim_data, holds}
use Rattle.cover_finder.specs.Hull.{AreWhole}
use Rattle.cover_finder.specs.Table.{AreInStep}
use Rattle.cover_finder.proofs.ReachParts.{shows_bound}
use Rattle.cover_finder.proofs.reach.Search.longest_piece.Goals as goal

pub returns-clause-shows : goal.returns-clause-shows
returns-clause-shows c xs tables none =
    let claim = claim_data c.args.self.now.claim.now in
    let out = holds c.args.self.now.out in
    let said = c.said_over-entries.result in
    let end = c.longest_end-upto.result in
    let longest = c.longest_end-upto.ensures.longest xs tables none in
    shows_bound claim xs out (pos c.args.begin) (pos end) said.entries.items said.parts.items
    (subst (λ (s : Stretch). AreWhole claim xs out s said.parts.items) c.stretch_of-stretch.ensures.exact
    (c.said_over-entries.ensures.whole xs tables))
    (subst (λ (s : Stretch). AreInStep claim xs out s said.entries.items said.parts.items)
    c.stretch_of-stretch.ensures.exact (c.said_over-entries.ensures.in_step xs tables))
    c.said_over-entries.ensures.same_number longest.shown
    (omega (arith, ints, c.longest_end-upto.ensures.from_begin)) c.longest_end-upto.ensures.to_last
