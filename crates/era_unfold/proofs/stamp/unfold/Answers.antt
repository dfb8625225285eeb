use Rattle.std.proofs.Common.{arith}
use Rattle.std.proofs.lemmas.Int.{ints}
use Rattle.era_unfold.proofs.StampTick.{StandsFor-era_earlier, unfolded-from_IsUnfolded}
use Rattle.era_unfold.proofs.stamp.unfold.Goals as goal

pub returns-then-ahead-lt-HALF_ERA-clause-congruent_and_near :
    goal.returns-then-ahead-lt-HALF_ERA-clause-congruent_and_near
returns-then-ahead-lt-HALF_ERA-clause-congruent_and_near c = record {
  stands_for = record { eras = c.ticks_ahead-ahead.ensures.eras; ticks_since_1900 = omega (arith, ints) };
  not_before = omega (arith, ints);
  before = omega (arith, ints);
}

pub returns-then-ahead-lt-HALF_ERA-clause-value : goal.returns-then-ahead-lt-HALF_ERA-clause-value
returns-then-ahead-lt-HALF_ERA-clause-value c =
    unfolded-from_IsUnfolded c.args.stamp c.args.near _ (returns-then-ahead-lt-HALF_ERA-clause-congruent_and_near c)

pub returns-else-ahead-lt-HALF_ERA-clause-congruent_and_near :
    goal.returns-else-ahead-lt-HALF_ERA-clause-congruent_and_near
returns-else-ahead-lt-HALF_ERA-clause-congruent_and_near c =
    let earlier = StandsFor-era_earlier c.args.stamp _ c.ticks_ahead-ahead.ensures in
    record {
      stands_for = record { eras = earlier.eras; ticks_since_1900 = omega (arith, ints, earlier.ticks_since_1900) };
      not_before = omega (arith, ints);
      before = omega (arith, ints);
    }

pub returns-else-ahead-lt-HALF_ERA-clause-value : goal.returns-else-ahead-lt-HALF_ERA-clause-value
returns-else-ahead-lt-HALF_ERA-clause-value c =
    unfolded-from_IsUnfolded c.args.stamp c.args.near _ (returns-else-ahead-lt-HALF_ERA-clause-congruent_and_near c)
