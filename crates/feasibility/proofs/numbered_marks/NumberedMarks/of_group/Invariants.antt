use Rattle.feasibility.proofs.Common.{map, data_of as claim_data}
use Rattle.feasibility.proofs.Numbering.{IsNumbering}
use Rattle.feasibility.proofs.numbered_marks.NumberedMarks.of_group.Given as goal

abbrev pub invariant-loop-number : goal.invariant-loop-number
invariant-loop-number g l =
    IsNumbering (claim_data l.claim) l.group (map g.X.ToExchange.shown l.exchanges) l.number l.numbers.items
    l.lows.items l.highs.items
