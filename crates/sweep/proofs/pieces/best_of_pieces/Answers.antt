use Rattle.sweep.proofs.Common.{arith, rules, to_z-of_z, w128, Low}
use Rattle.sweep.proofs.ExtremeList.{some_sample}
use Rattle.sweep.proofs.Piece.{AreBestOfPieces-tops}
use Rattle.sweep.proofs.pieces.best_of_pieces.Goals as goal

pub stretches_of-requires : goal.stretches_of-requires
stretches_of-requires g c =
    rw (to_z-of_z w128 c.args.first c.ranges.first) c.requires.pieces

pub top_numbers-requires-clause-in_order : goal.top_numbers-requires-clause-in_order
top_numbers-requires-clause-in_order g c = grind arith

pub top_numbers-requires-2-clause-in_order : goal.top_numbers-requires-2-clause-in_order
top_numbers-requires-2-clause-in_order g c = grind arith

pub returns-clause-none : goal.returns-clause-none
returns-clause-none g c =
    (λ none. absurd cc, λ none. absurd (some_sample Low _ _ _ c.in_ok-lows.ensures.lows (search rules) none))

pub returns-clause-best : goal.returns-clause-best
returns-clause-best g c =
    AreBestOfPieces-tops (g.S.SampleSource.samples c.args.samples) c.args.server
    c.args.first c.args.ends.now c.args.drift_ppb c.in_ok-lows.lows.items c.in_ok-lows.highs.items
    c.in_ok-lows.ensures.lows c.in_ok-lows.ensures.highs c.in_ok-stretches.stretches.items
    (rw (to_z-of_z w128 c.args.first c.ranges.first) at c.in_ok-stretches.ensures)
    c.in_ok-low_numbers.low_numbers.items c.in_ok-high_numbers.high_numbers.items c.in_ok-chosen.chosen.items
    (rw (c.as_slice.ensures.value, c.as_slice-2.ensures.value) at c.in_ok-low_numbers.ensures)
    (rw (c.as_slice-3.ensures.value, c.as_slice-4.ensures.value) at c.in_ok-high_numbers.ensures)
    (rw (c.as_slice-5.ensures.value, c.as_slice-6.ensures.value) at c.in_ok-chosen.ensures)
