use Rattle.std.proofs.Common.{◌<◌, length, arith}
use Rattle.std.proofs.lemmas.Grind.{common_steps}
use Rattle.cover_finder.proofs.MadeReasons.{none_fewer}
use Rattle.cover_finder.proofs.search.is_few.Goals as goal

pub returns-then-left-len : goal.returns-then-left-len
returns-then-left-len c =
    let cases = c.as_slice-case-items.result.now in
    let case = c.case-item.result in
    let less : c.loop-case.left < length case.pieces.items = grind (arith, common_steps) in (
      λ e. absurd cc,
      λ few. absurd (none_fewer cases c.loop-case.case-index case c.loop-case.left c.loop-case-test.true c.case-item.is
          c.loop-case.invariant less (rw c.as_slice-case-items.ensures.value few.pieces)),
    )
