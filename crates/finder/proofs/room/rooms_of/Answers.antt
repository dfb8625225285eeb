use Rattle.finder.proofs.Common.{◌∙◌, ◌||◌, refl, ap, take, arith, ints, clamps, to_z-of_z, length-set, w128, leaves_out, AreRooms, room_at, All-slice_get}
use Rattle.std.specs.Prelude.{map}
use Rattle.finder.proofs.ErrorRoom.{left_out_of_either}
use Rattle.finder.proofs.Rooms.{rooms_of_none, rooms_more}
use Rattle.finder.proofs.CompactExchange.{lawful_of, stands_at}
use Rattle.finder.proofs.List.{take_one_more}
use Rattle.pairing.specs.Exchange.{IsLawful}
use Rattle.finder.proofs.room.rooms_of.Goals as goal

pub loop-held-init : goal.loop-held-init
loop-held-init g c = record { count = refl; rooms = rooms_of_none _ _ refl }

pub bounds-rooms-server : goal.bounds-rooms-server
bounds-rooms-server g c =
    let lawful = lawful_of g.X.ToExchange.shown c.args.exchanges.now c.loop-held.held-index _ _ c.loop-held-test.true
    c.held-item.is c.to_exchange-exchange.ensures 32 c.requires.exchanges in
    omega (arith, lawful.listed, c.from-server.ensures)

pub room_of-requires-clause-exchange : goal.room_of-requires-clause-exchange
room_of-requires-clause-exchange g c =
    let lawful = lawful_of g.X.ToExchange.shown c.args.exchanges.now c.loop-held.held-index _ _ c.loop-held-test.true
    c.held-item.is c.to_exchange-exchange.ensures 32 c.requires.exchanges in
    record { servers = 32; lawful = lawful }

pub bounds-rooms-server-in-loop-held : goal.bounds-rooms-server-in-loop-held
bounds-rooms-server-in-loop-held g c =
    let lawful = lawful_of g.X.ToExchange.shown c.args.exchanges.now c.loop-held.held-index _ _ c.loop-held-test.true
    c.held-item.is c.to_exchange-exchange.ensures 32 c.requires.exchanges in
    omega (arith, lawful.listed, c.from-server.ensures)

pub loop-held-preserved : goal.loop-held-preserved
loop-held-preserved g c =
    let allowance = to_z-of_z w128 c.args.allowance c.ranges.allowance in
    let rooms = c.loop-held.rooms in
    let shown = g.X.ToExchange.shown in
    let held = c.args.exchanges.now in
    let index = c.loop-held.held-index in
    let x = c.to_exchange-exchange.result in
    let at = stands_at shown held index _ x c.loop-held-test.true c.held-item.is c.to_exchange-exchange.ensures in
    let listed = (All-slice_get (IsLawful 32) (map shown held) index x c.requires.exchanges at).listed in
    let same = c.from-server.ensures in
    let are : AreRooms c.args.allowance (take index (map shown held)) rooms =
    rw allowance at c.loop-held.invariant.rooms in
    let room = rw allowance at c.room_of.ensures.room in
    let before = are x.server listed in
    let old = room_at rooms x.server in
    let new = c.room_of.result in
    let lo = rw same at c.meet.ensures.lo in
    let hi = rw same at c.meet.ensures.hi in
    record {
      count = length-set rooms c.from-server.result c.meet.result ∙ c.loop-held.invariant.count;
      rooms = rw (allowance, same, take_one_more (map shown held) index x at)
          (rooms_more c.args.allowance (take index (map shown held)) x rooms c.loop-held.invariant.count are listed
          c.meet.result
          (λ error near. rw (lo, hi) (left_out_of_either old.lo old.hi new.lo new.hi error)
          ∙ ap (λ b. leaves_out old error || b) (room error near))
          (rw lo (omega (arith, ints, clamps, before.low, c.room_of.ensures.low)))
          (rw hi (omega (arith, ints, clamps, before.high, c.room_of.ensures.high))));
    }
