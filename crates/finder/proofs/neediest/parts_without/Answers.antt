use Rattle.finder.proofs.Common.{◌<◌, ◌∙◌, ap, sym, length, not, arith, common_steps, take_all, holds, has_say}
use Rattle.finder.proofs.HullWithout.{one_more_kept, one_passed_over}
use Rattle.finder.proofs.neediest.parts_without.Goals as goal
use Rattle.finder.proofs.neediest.parts_without.Goals.{then-not-contains, else-not-contains}

pub push-requires : goal.push-requires
push-requires c =
    let room : length c.loop-part.parts.items < 32 = omega arith in
    (omega arith, room)

pub loop-part-preserved : goal.loop-part-preserved
loop-part-preserved c =
    let test = has_say c.args.claim.now.groups.items (holds c.args.cover) in
    let index = c.loop-part.part-index in
    let is = ap not (ap (holds c.args.cover) (sym c.group_of.ensures.exact)) in
    elim c.if-not-contains.branch [
      | then-not-contains w ↦ rw w.parts-is (record {
        so_far = one_more_kept test c.args.all.now index _ c.loop-part.parts.items c.loop-part.invariant.so_far
            c.loop-part-test.true w.push.new.self.items
            (is ∙ ap not (sym c.contains.ensures.exact ∙ w.if-not-contains.true)) w.push.ensures.items;
        fits = grind (arith, common_steps);
      })
      | else-not-contains w ↦ rw w.parts-is (record {
        so_far = one_passed_over test c.args.all.now index _ c.loop-part.parts.items c.loop-part.invariant.so_far
            c.loop-part-test.true (is ∙ ap not (sym c.contains.ensures.exact ∙ w.if-not-contains.false));
        fits = omega arith;
      })
    ]

pub returns : goal.returns
returns c = record {
  exact = rw (take_all c.loop-part.part-index c.args.all.now c.loop-part-test.false) at c.loop-part.invariant.so_far;
}
