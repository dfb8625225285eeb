use Rattle.sweep.proofs.Common.{refl, subst, sym, IsSome}
use Rattle.sweep.proofs.HighestExtreme.{number_found, number_more}
use Rattle.sweep.proofs.choice.top_numbers.Goals as goal

pub unwrap-number-requires : goal.unwrap-number-requires
unwrap-number-requires c =
    let own = number_found c.widening_is_one_number.ensures.is c.args.drift_ppb c.requires.rate c.args.extremes.now
    c.requires.extremes c.args.stretches.now c.requires.stretches c.in_ok-early.early.items c.in_ok-late.late.items
    c.in_ok-early.ensures c.in_ok-late.ensures c.loop-k.k c.loop-k-test.true c.index.result.now
    c.index-in-loop-k.result.now c.index.ensures c.index-in-loop-k.ensures c.number_of.result c.number_of.ensures
    c.requires.some in
    subst IsSome (sym own.1) refl

pub loop-k-preserved : goal.loop-k-preserved
loop-k-preserved c =
    rw c.in_ok-push.ensures.items
    (number_more c.widening_is_one_number.ensures.is c.args.drift_ppb c.requires.rate c.args.extremes.now
    c.requires.extremes c.args.stretches.now c.requires.stretches c.in_ok-early.early.items c.in_ok-late.late.items
    c.in_ok-early.ensures c.in_ok-late.ensures c.loop-k.k c.loop-k-test.true c.index.result.now
    c.index-in-loop-k.result.now c.index.ensures c.index-in-loop-k.ensures c.number_of.result c.number_of.ensures
    c.requires.some c.unwrap-number.result
    c.unwrap-number.ensures c.loop-k.numbers.items c.loop-k.invariant)
