use Rattle.finder.proofs.Common.{◌≡◌, length, take, AreRooms}
use Rattle.std.specs.Prelude.{map}
use Rattle.finder.proofs.room.rooms_of.Given as goal

abbrev pub invariant-loop-held : goal.invariant-loop-held
invariant-loop-held g l = record {
  count : length l.rooms ≡ 32;
  rooms : AreRooms l.allowance (take l.held-index (map g.X.ToExchange.shown l.exchanges)) l.rooms;
}
