use Rattle.std.proofs.Common.{arith}
use Rattle.std.proofs.lemmas.Int.{ints}
use Rattle.cover_checker.proofs.MovedMark.{least_fits, missed_exact, missed_fits}
use Rattle.cover_checker.proofs.interval.missed_by.Goals as goal

pub overflow_sub-least : goal.overflow_sub-least
overflow_sub-least c =
    least_fits c.args.drift_ppb c.args.low c.args.high c.ahead.result c.widen-fall.result c.ahead-2.result
    c.rise-rise.result c.max.result c.requires.low c.requires.high
    (record {
      distance_is = c.ahead.ensures.value;
      change_is = c.widen-fall.ensures.exact;
      from_zero = omega (arith, ints, c.widen-fall.ensures.exact);
      at_most = c.widen-fall.ensures.at_most_the_distance;
    })
    (record {
      distance_is = c.ahead-2.ensures.value;
      change_is = c.rise-rise.ensures.exact;
      from_zero = c.rise-rise.ensures.not_negative;
      at_most = c.rise-rise.ensures.at_most_the_distance;
    })
    c.max.ensures.value

pub overflow_sub-result : goal.overflow_sub-result
overflow_sub-result c =
    missed_fits c.args.drift_ppb c.args.low c.args.high c.ahead.result c.widen-fall.result c.ahead-2.result
    c.rise-rise.result c.max.result c.requires.low c.requires.high
    (record {
      distance_is = c.ahead.ensures.value;
      change_is = c.widen-fall.ensures.exact;
      from_zero = omega (arith, ints, c.widen-fall.ensures.exact);
      at_most = c.widen-fall.ensures.at_most_the_distance;
    })
    (record {
      distance_is = c.ahead-2.ensures.value;
      change_is = c.rise-rise.ensures.exact;
      from_zero = c.rise-rise.ensures.not_negative;
      at_most = c.rise-rise.ensures.at_most_the_distance;
    })
    c.max.ensures.value

pub returns : goal.returns
returns c =
    missed_exact c.args.drift_ppb c.args.low c.args.high c.ahead.result c.widen-fall.result c.ahead-2.result
    c.rise-rise.result c.max.result c.requires.low c.requires.high
    (record {
      distance_is = c.ahead.ensures.value;
      change_is = c.widen-fall.ensures.exact;
      from_zero = omega (arith, ints, c.widen-fall.ensures.exact);
      at_most = c.widen-fall.ensures.at_most_the_distance;
    })
    (record {
      distance_is = c.ahead-2.ensures.value;
      change_is = c.rise-rise.ensures.exact;
      from_zero = c.rise-rise.ensures.not_negative;
      at_most = c.rise-rise.ensures.at_most_the_distance;
    })
    c.max.ensures.value
