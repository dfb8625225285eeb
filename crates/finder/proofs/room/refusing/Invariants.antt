use Rattle.finder.proofs.Common.{◌≡◌, ◌≤◌, length, filter, numbers_below, refused_by}
use Rattle.finder.proofs.room.refusing.Given as goal

abbrev pub invariant-loop-server : goal.invariant-loop-server
invariant-loop-server l = record {
  so_far : l.refusing.items ≡ filter (refused_by l.rooms l.error) (numbers_below l.server);
  fits : length l.refusing.items ≤ l.server;
}
