use Rattle.std.proofs.Common.{◌≡◌, arith, length, map, rules}
use Rattle.std.proofs.lemmas.Grind.{common_steps}
use Rattle.cover_finder.specs.Common.{claim_data}
use Rattle.cover_finder.specs.Table.{mark_of}
use Rattle.cover_finder.proofs.Tables.{none_marked}
use Rattle.cover_finder.proofs.table.side_of.Goals as goal

pub returns-then-is_empty : goal.returns-then-is_empty
returns-then-is_empty g c =
    let marks = c.in_ok-marks.marks.items in
    let none : length marks ≡ 0 = first_of (search rules, grind (arith, common_steps)) in
    none_marked (mark_of c.args.is_high (claim_data c.args.claim.now).reading)
    (map g.X.ToExchange.shown c.args.exchanges.now) c.args.server marks c.in_ok-marks.ensures.are none
