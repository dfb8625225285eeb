use Rattle.std.proofs.Common.{◌≡◌, ◌∙◌, ℤ, ap, arith, of_z, to_z}
use Rattle.std.proofs.lemmas.Int.{ints}
use mir.Syntax.{w128}
use Rattle.cover_finder.specs.Common.{is_inside}
use Rattle.cover_finder.proofs.reach.Search.shows.Goals as goal

pub returns : goal.returns
returns c none =
    let same : to_z w128 (of_z w128 c.bound.result) ≡ c.args.self.now.claim.now.bound =
    omega (arith, ints, c.bound.ensures.exact) in
    c.is_inside.ensures ∙ ap (λ (b : ℤ). is_inside b c.args.hull) same
