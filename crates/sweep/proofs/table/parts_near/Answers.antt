use Rattle.sweep.proofs.Common.{◌≡◌, ◌<◌, ℤ, length, Some, ◌∙◌, subst, sym, arith, to_z, of_z, to_z-of_z, common_steps, take_all, w128, IsTableOf, best_part, BestTable}
use Rattle.sweep.proofs.TableList.{filter_map_more, parts_are}
use Rattle.sweep.proofs.table.parts_near.Goals as goal

pub loop-index-preserved : goal.loop-index-preserved
loop-index-preserved c =
    let ppb = c.args.drift_ppb in
    let begin : ℤ = to_z w128 (of_z w128 c.args.begin) in
    let end : ℤ = to_z w128 (of_z w128 c.args.end) in
    let tables = c.args.tables.now in
    let index = c.loop-index.index in
    let table = c.index-tables-index.result in
    let within : index < length tables = c.loop-index-test.true in
    record {
      few = grind (arith, common_steps);
      so_far = λ samples each.
          c.push.ensures.items
          ∙ filter_map_more (λ (t : BestTable). best_part samples begin end ppb t.server) tables index table
          c.part_over.result c.loop-index.parts.items (c.loop-index.invariant.so_far samples each) within
          (subst (λ (t : BestTable). best_part samples begin end ppb t.server ≡ Some c.part_over.result)
          c.index-tables-index.is
          (c.part_over.ensures samples
          (subst (IsTableOf samples ppb) (sym c.index-tables-index.is) (each index table within))));
    }

pub returns : goal.returns
returns c samples count are =
    rw (
      to_z-of_z w128 c.args.begin c.ranges.begin,
      to_z-of_z w128 c.args.end c.ranges.end,
      take_all c.loop-index.index c.args.tables.now c.loop-index-test.false,
    ) at (c.loop-index.invariant.so_far samples are.each)
    ∙ parts_are samples count c.args.begin c.args.end c.args.drift_ppb c.args.tables.now are
