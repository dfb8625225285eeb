use Rattle.std.proofs.Common.{◌<◌, ◌≤◌, ◌≤ℤ◌, ◌^◌, ◌∙◌, ◌+◌, ◌*◌, ap, pos, subst, sym, unsigned_abs, arith}
use Rattle.std.proofs.lemmas.Int.{ints, to_z_pos, to_z-of_z, fits_signed_from_abs}
use mir.Syntax.{w128}
use Rattle.era_unfold.specs.Ratio.{IsCeiling}
use Rattle.sample_interval.specs.Widening.{billion}
unfoldable use Rattle.cover_checker.specs.Interval.{rise}
use Rattle.cover_checker.proofs.RoundedUp.{ceiling_by_division, no_more_than, one_ceiling}
use Rattle.cover_checker.proofs.interval.rise.Goals as goal

is : (c : goal.After-rounded_up) → IsCeiling (c.args.drift_ppb * unsigned_abs c.args.distance)
    (billion + c.args.drift_ppb) c.rounded_up.result
is c =
    ceiling_by_division c.from-rate.result c.unsigned_abs.result c.rounded_up.result c.args.drift_ppb
    (unsigned_abs c.args.distance) c.from-rate.ensures
    (c.unsigned_abs.ensures.value ∙ ap unsigned_abs (to_z-of_z w128 c.args.distance c.ranges.distance))
    c.rounded_up.ensures

within : (c : goal.After-rounded_up) → c.rounded_up.result ≤ unsigned_abs c.args.distance
within c = no_more_than c.args.drift_ppb (unsigned_abs c.args.distance) c.rounded_up.result (is c)

fits : (c : goal.After-rounded_up) → c.rounded_up.result < 2 ^ 127
fits c = omega (arith, ints, within c)

pub overflow_cast-result : goal.overflow_cast-result
overflow_cast-result c = fits_signed_from_abs w128 (pos c.rounded_up.result) (fits c)

pub returns-clause-exact : goal.returns-clause-exact
unfolding rise
returns-clause-exact c =
    to_z_pos w128 _ (fits c)
    ∙ ap pos (one_ceiling _ _ _ _ (is c)
    (c.ratios_are_rounded_as_little_as_can_be.ensures.up (c.args.drift_ppb * unsigned_abs c.args.distance)
    (billion + c.args.drift_ppb) (omega arith)))

pub returns-clause-not_negative : goal.returns-clause-not_negative
returns-clause-not_negative c =
    subst (λ z. pos 0 ≤ℤ z) (sym (to_z_pos w128 _ (fits c))) (omega (arith, ints))

pub returns-clause-at_most_the_distance : goal.returns-clause-at_most_the_distance
returns-clause-at_most_the_distance c =
    subst (λ z. z ≤ℤ c.args.distance) (sym (to_z_pos w128 _ (fits c))) (omega (arith, ints, within c))
