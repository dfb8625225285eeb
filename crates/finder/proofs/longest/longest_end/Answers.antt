use Rattle.finder.proofs.Common.{◌+◌, ◌∙◌, sym, arith, data_of}
use Rattle.finder.proofs.LongestPiece.{halved_down}
use Rattle.finder.proofs.longest.longest_end.Goals as goal

pub loop-low-preserved : goal.loop-low-preserved
loop-low-preserved c samples tabled =
    halved_down samples (data_of c.args.claim.now) c.args.claim.now.lawful tabled.of_claim
    c.args.begin c.args.next c.requires.in_span c.requires.next c.loop-low.low c.loop-low.high
    (c.trial-middle.result + 1)
    (c.loop-low.invariant samples tabled) (omega arith) (omega arith) (c.requires.shown samples tabled)
    (sym (c.is_shown.ensures samples tabled) ∙ c.if-is_shown.false)
