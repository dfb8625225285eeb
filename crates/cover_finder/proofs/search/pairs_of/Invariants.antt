use Rattle.std.proofs.Common.{◌≡◌, map, take}
use Rattle.cover_finder.specs.Common.{conflict_data}
use Rattle.cover_finder.specs.Made.{pair_of}
use Rattle.cover_finder.proofs.search.pairs_of.Given as goal

abbrev pub invariant-loop-conflict : goal.invariant-loop-conflict
invariant-loop-conflict g l =
    l.pairs.items ≡ map pair_of (map conflict_data (take l.conflict-index l.conflict-items))
