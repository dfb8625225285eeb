use Rattle.checker.proofs.Common.{◌≡◌, pos, rules, ap, ◌∙◌, to_z, of_z, unsigned_abs, to_z-of_z, w64, w128, data_of}
use Rattle.checker.proofs.refutation.is_outside.Goals as goal

pub returns : goal.returns
returns c =
    let claim = data_of c.args.claim.now in
    let refutation = c.args.refutation.now in
    let first : to_z w128 (of_z w128 claim.first) ≡ claim.first = search rules in
    let last : to_z w128 (of_z w128 claim.last) ≡ claim.last = search rules in
    let bound : to_z w128 (of_z w128 claim.bound) ≡ claim.bound = search rules in
    let error : to_z w64 (of_z w64 refutation.error) ≡ refutation.error = search rules in
    let far = to_z-of_z w128 c.from.result (record { sfits = c.from.type_inv })
    ∙ c.from.ensures ∙ ap pos (c.unsigned_abs.ensures.value ∙ ap unsigned_abs error) in
    let reading = to_z-of_z w128 c.from-reading.result (record { sfits = c.from-reading.type_inv })
    ∙ c.from-reading.ensures in
    rw (bound, far, first, last, reading) at c.all_hold.ensures
