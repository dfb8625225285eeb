use Rattle.std.proofs.Common.{◌==◌}
use Rattle.checker.proofs.Common.{◌≡◌, ◌&&◌, false, list_any, slice_index, numbers_below, is_liar}
use Rattle.checker.proofs.refutation.holds_liar.Given as goal

abbrev pub invariant-loop-server : goal.invariant-loop-server
invariant-loop-server l =
    list_any (λ server. (slice_index l.groups server == l.group) && is_liar l.liars server) (numbers_below l.server)
    ≡ false
