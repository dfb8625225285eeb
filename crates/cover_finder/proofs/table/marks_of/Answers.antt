use Rattle.std.proofs.Common.{length, map}
use Rattle.std.proofs.lemmas.List.Sorted.{All-permutation}
use Rattle.cover_finder.specs.Common.{IsWithinRange, claim_data}
use Rattle.cover_finder.specs.Table.{mark_of}
use Rattle.cover_finder.specs.declared.peak.Numbered.{Numbered}
use Rattle.cover_finder.proofs.Tables.{marks_permuted}
use Rattle.cover_finder.proofs.table.marks_of.Goals as goal

pub returns-clause-are : goal.returns-clause-are
returns-clause-are g c =
    let xs = map g.X.ToExchange.shown c.args.exchanges.now in
    marks_permuted (mark_of c.args.is_high (claim_data c.args.claim.now).reading) xs c.args.server (length xs)
    c.in_ok-marks.marks.items c.in_ok-marks.ensures.are c.sorted.result.items c.sorted.ensures.permutation

pub returns-clause-range : goal.returns-clause-range
returns-clause-range g c =
    All-permutation (λ (one : Numbered). IsWithinRange one.mark) c.in_ok-marks.marks.items c.sorted.result.items
    c.sorted.ensures.permutation c.in_ok-marks.ensures.range
