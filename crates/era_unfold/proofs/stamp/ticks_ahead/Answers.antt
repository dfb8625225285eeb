use Rattle.std.proofs.Common.{◌%◌, ap, ◌∙◌, unsigned_abs}
use Rattle.std.specs.Int.{w128}
use Rattle.std.proofs.lemmas.Int.{to_z-of_z}
use Rattle.era_unfold.specs.Stamp.{era}
use Rattle.era_unfold.proofs.StampTick.{StandsFor-wrapping}
use Rattle.era_unfold.proofs.stamp.ticks_ahead.Goals as goal

pub returns : goal.returns
returns c =
    let place = c.place_in_era.ensures ∙ ap (λ z. unsigned_abs z % era) (to_z-of_z w128 c.args.near c.ranges.near) in
    StandsFor-wrapping c.args.stamp c.place_in_era.result c.args.near c.requires.from_1970 place
