use Rattle.std.proofs.Common.{◌==◌}
use Rattle.checker.proofs.Common.{sym, length, ◌&&◌, ◌∙◌, slice_index, is_liar, and-from_equal}
use Rattle.checker.proofs.Counting.{found_below}
use Rattle.checker.proofs.refutation.holds_liar.Goals as goal

pub returns-then-contains : goal.returns-then-contains
returns-then-contains c =
    sym (found_below
    (λ server. (slice_index c.args.groups.now server == c.args.group) && is_liar c.args.liars.now server)
    (length c.args.groups.now) c.loop-server.server c.loop-server-test.true
    (and-from_equal _ c.args.group _ (sym c.from.ensures ∙ c.if-from-group.true)
    (sym c.contains.ensures.value ∙ c.if-contains.true)))
