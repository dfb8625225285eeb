use Rattle.finder.proofs.Common.{None, Some, pos, neg_ℤ, refl, sym, arith, ◌-ℤ◌, ◌≡◌, ints, data_of as claim_data, Above, Below, w128_keeps}
use Rattle.finder.proofs.RefutationSearch.{nearest_of, sought_is}
use Rattle.finder.proofs.nearest_refutation.nearest_error.Goals as goal

pub returns-in-Some-clause-exact : goal.returns-in-Some-clause-exact
returns-in-Some-clause-exact c xs are =
    let claim = claim_data c.args.claim.now in
    let lawful = c.args.claim.now.lawful in
    let beyond = c.in-Some.ensures.beyond in
    let within = c.in-Some.ensures.within in
    rw (w128_keeps c.in-Some.error (omega (arith, ints))) (sym (nearest_of claim lawful xs c.args.rooms.now are
    (Some c.in-Some.error) _
    (sought_is claim lawful xs c.args.rooms.now are Above (Some c.in-Some.error) c.in-Some.ensures) refl))

pub returns-in-None-clause-exact : goal.returns-in-None-clause-exact
returns-in-None-clause-exact c xs are =
    let claim = claim_data c.args.claim.now in
    let lawful = c.args.claim.now.lawful in
    sym (nearest_of claim lawful xs c.args.rooms.now are None None
    (sought_is claim lawful xs c.args.rooms.now are Above None c.in_default.ensures)
    (sought_is claim lawful xs c.args.rooms.now are Below None c.in-None.ensures))

pub returns-in-Some-nearest-clause-exact : goal.returns-in-Some-nearest-clause-exact
returns-in-Some-nearest-clause-exact c xs are =
    let claim = claim_data c.args.claim.now in
    let lawful = c.args.claim.now.lawful in
    let error = c.in-Some-nearest.error in
    let beyond = c.in-Some-nearest.ensures.beyond in
    let within = c.in-Some-nearest.ensures.within in
    let same = w128_keeps error (omega (arith, ints)) in
    let negative = w128_keeps (pos 0 -ℤ error) (omega (arith, ints)) in
    let opposite : pos 0 -ℤ error ≡ neg_ℤ error = omega (arith, ints) in
    rw (same, negative, opposite) (sym (nearest_of claim lawful xs c.args.rooms.now are None (Some error)
    (sought_is claim lawful xs c.args.rooms.now are Above None c.in_default.ensures)
    (sought_is claim lawful xs c.args.rooms.now are Below (Some error) c.in-Some-nearest.ensures)))
