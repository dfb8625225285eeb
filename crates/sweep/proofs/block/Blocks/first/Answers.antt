use Rattle.sweep.proofs.Common.{◌≡◌, ◌*◌, arith, subst, AreUpto, IsFirstBlock}
use Rattle.sweep.proofs.BlockLimits.{narrower}
use Rattle.sweep.proofs.block.Blocks.first.Goals as goal

pub returns-clause-first : goal.returns-clause-first
returns-clause-first c place index upto reached =
    let queue = c.args.queue.now in
    let height = c.args.height in
    let taken = c.loop-self.self.taken in
    let are = c.loop-self.invariant.are in
    let come : AreUpto queue place taken =
    subst (AreUpto queue place) (let same : c.args.count ≡ taken = omega arith in same) upto in
    let room = are.of_1.room reached.turn reached.arrival reached.stands in
    let whole : IsFirstBlock queue place height (16384 * 128) 0 = record {
      index = index;
      reached = reached;
      in_block = omega (arith, reached.of_index);
      first = λ other again. omega arith;
    } in
    narrower queue place height 1 taken _ come are.of_1 c.first_block-block-2.result c.first_block.result
    (rw c.as_slice-3.ensures.value at c.first_block.ensures.first)
    (narrower queue place height 128 taken _ come are.of_128 c.first_block-block.result c.first_block-block-2.result
    (rw c.as_slice-2.ensures.value at c.first_block-block-2.ensures.first)
    (narrower queue place height 16384 taken _ come are.of_16384 0 c.first_block-block.result
    (rw c.as_slice.ensures.value at c.first_block-block.ensures.first) whole))
