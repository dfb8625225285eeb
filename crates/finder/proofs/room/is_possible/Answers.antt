use Rattle.finder.proofs.Common.{◌≡◌, ◌∙◌, length, refl, rules, to_z-of_z, w128, data_of as claim_data, refused_by}
use Rattle.finder.proofs.Liar.{as_many_named}
use Rattle.finder.proofs.room.is_possible.Goals as goal

pub returns : goal.returns
returns c =
    let claim = claim_data c.args.claim.now in
    let error = to_z-of_z w128 c.args.error c.ranges.error in
    let servers : c.len.result ≡ length claim.groups = search rules in
    let liars = rw (error, servers) at c.refusing-liars.ensures in
    let count = rw (c.as_slice.ensures.value, c.as_slice-2.ensures.value, liars) at c.false_group_count.ensures.exact in
    rw (count ∙ as_many_named (refused_by c.args.rooms.now c.args.error) claim.groups, c.from.ensures) refl
