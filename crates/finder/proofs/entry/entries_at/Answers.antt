use Rattle.finder.proofs.Common.{refl, sym, ap, ◌∙◌, arith, slice_get, common_steps, slice_get_read}
use Rattle.finder.proofs.List.{filter_map_more}
use Rattle.finder.proofs.entry.entries_at.Goals as goal

pub loop-table-preserved : goal.loop-table-preserved
loop-table-preserved c =
    let table = c.table-item.result in
    let number = c.args.number in
    let tables = c.args.tables.now in
    let index = c.loop-table.table-index in
    let long = rw (← c.table-item.is) at (c.requires.long index table c.loop-table-test.true) in
    let read = slice_get_read table.items _ number c.index.result.now refl long c.index.ensures in
    record {
      so_far = filter_map_more (λ t. slice_get t.items number) tables index table c.index.result.now
          c.loop-table.entries.items c.push.new.self.items c.loop-table.invariant.so_far c.loop-table-test.true
          (ap (λ t. slice_get t.items number) (sym c.table-item.is) ∙ read) c.push.ensures.items;
      fits = grind (arith, common_steps);
    }
