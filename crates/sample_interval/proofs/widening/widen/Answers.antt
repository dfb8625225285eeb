use Rattle.sample_interval.proofs.Common.{arith, ◌≡◌, ◌<◌, ◌≤◌, ◌≤ℤ◌, ◌^◌, ◌∙◌, ap, pos, subst, sym, unsigned_abs, to_z_pos, to_z-of_z, fits_signed_from_abs, w128, IsWidening, widening}
use Rattle.sample_interval.proofs.LeastWidening.{IsWidening-div_ceil, IsWidening-le_distance}
use Rattle.sample_interval.proofs.LeastWidening.{rate_below, parts_left, within_a_word, at_most}
use Rattle.sample_interval.proofs.widening.widen.Goals as goal

pub overflow_sub-rate : goal.overflow_sub-rate
overflow_sub-rate c = rate_below c.from-rate.result c.args.drift_ppb c.requires.rate c.from-rate.ensures

pub rounded_up-requires : goal.rounded_up-requires
rounded_up-requires c = parts_left c.from-rate.result c.args.drift_ppb c.requires.rate c.from-rate.ensures

widens : (c : goal.After-rounded_up) → IsWidening c.args.drift_ppb (unsigned_abs c.args.distance) c.rounded_up.result
widens c =
    IsWidening-div_ceil c.from-rate.result c.unsigned_abs.result c.rounded_up.result c.args.drift_ppb
    (unsigned_abs c.args.distance) (omega arith) c.from-rate.ensures
    (c.unsigned_abs.ensures.value ∙ ap unsigned_abs (to_z-of_z w128 c.args.distance c.ranges.distance))
    c.rounded_up.ensures

value : (c : goal.After-rounded_up) → c.rounded_up.result ≡ widening c.args.drift_ppb (unsigned_abs c.args.distance)
value c =
    c.widening_is_one_number.ensures.one c.args.drift_ppb (unsigned_abs c.args.distance) c.rounded_up.result
    (omega arith) (widens c)

within_distance : (c : goal.After-rounded_up) → c.rounded_up.result ≤ unsigned_abs c.args.distance
within_distance c =
    IsWidening-le_distance c.args.drift_ppb (unsigned_abs c.args.distance) c.rounded_up.result c.requires.rate
    (widens c)

fits : (c : goal.After-rounded_up) → c.rounded_up.result < 2 ^ 127
fits c = within_a_word c.rounded_up.result c.args.distance c.requires.from_zero c.requires.in_range (within_distance c)

pub overflow_cast-result : goal.overflow_cast-result
overflow_cast-result c = fits_signed_from_abs w128 (pos c.rounded_up.result) (fits c)

pub returns-clause-exact : goal.returns-clause-exact
returns-clause-exact c = to_z_pos w128 _ (fits c) ∙ ap pos (value c)

pub returns-clause-least : goal.returns-clause-least
returns-clause-least c =
    subst (λ w. IsWidening c.args.drift_ppb (unsigned_abs c.args.distance) (unsigned_abs w))
    (sym (to_z_pos w128 _ (fits c))) (widens c)

pub returns-clause-at_most_the_distance : goal.returns-clause-at_most_the_distance
returns-clause-at_most_the_distance c =
    subst (λ z. z ≤ℤ c.args.distance) (sym (to_z_pos w128 _ (fits c)))
    (at_most c.rounded_up.result c.args.distance c.requires.from_zero (within_distance c))
