use Rattle.sweep.proofs.Common.{◌/◌, ◌<◌, List, length, get_or, arith, refl, slice_get-get_or, div-one, AreBlocksOf, Arrival, Blocks}
use Rattle.sweep.proofs.BlockLimits.{AreLimitsOf-more}
use Rattle.sweep.proofs.block.Blocks.take_next.Goals as goal

abbrev next : List Arrival → Blocks → Arrival
next queue blocks = get_or queue blocks.taken (record { at = 0; height = 0; index = 0 })

rooms : (queue : List Arrival) (blocks : Blocks) → AreBlocksOf queue blocks → blocks.taken < length queue →
    ((next queue blocks).index < blocks.of_1.len) × ((next queue blocks).index / 128 < blocks.of_128.len)
    × ((next queue blocks).index / 16384 < blocks.of_16384.len)
rooms queue blocks are some =
    let here = slice_get-get_or queue blocks.taken (record { at = 0; height = 0; index = 0 }) some in
    let one = are.of_1.room blocks.taken (next queue blocks) here in
    let more = are.of_128.room blocks.taken (next queue blocks) here in
    let most = are.of_16384.room blocks.taken (next queue blocks) here in
    (omega (arith, blocks.of_1.ok.0), omega (arith, blocks.of_128.ok.0), omega (arith, blocks.of_16384.ok.0))

pub index-requires : goal.index-requires
index-requires c = (rooms c.args.queue.now c.args.self.now c.requires.are c.requires.some).0

pub index_mut-requires : goal.index_mut-requires
index_mut-requires c = (rooms c.args.queue.now c.args.self.now c.requires.are c.requires.some).0

pub index-requires-2 : goal.index-requires-2
index-requires-2 c = (rooms c.args.queue.now c.args.self.now c.requires.are c.requires.some).1

pub index_mut-requires-2 : goal.index_mut-requires-2
index_mut-requires-2 c = (rooms c.args.queue.now c.args.self.now c.requires.are c.requires.some).1

pub index-requires-3 : goal.index-requires-3
index-requires-3 c = (rooms c.args.queue.now c.args.self.now c.requires.are c.requires.some).2

pub index_mut-requires-3 : goal.index_mut-requires-3
index_mut-requires-3 c = (rooms c.args.queue.now c.args.self.now c.requires.are c.requires.some).2

pub returns-clause-are : goal.returns-clause-are
returns-clause-are c =
    let queue = c.args.queue.now in
    let taken = c.args.self.now.taken in
    let are = c.requires.are in
    let here = slice_get-get_or queue taken _ c.requires.some in
    record {
      of_1 = AreLimitsOf-more queue taken 1 _ are.of_1 _ here _ (div-one _) _ _ c.index.ensures c.max.ensures;
      of_128 = AreLimitsOf-more queue taken 128 _ are.of_128 _ here _ refl _ _ c.index-2.ensures c.max-2.ensures;
      of_16384 = AreLimitsOf-more queue taken 16384 _ are.of_16384 _ here _ refl _ _ c.index-3.ensures c.max-3.ensures;
    }
