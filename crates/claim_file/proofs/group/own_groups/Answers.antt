use Rattle.claim_file.proofs.Groups.{range_front, found_more}
use Rattle.claim_file.proofs.group.own_groups.Goals as goal

pub loop-server-preserved : goal.loop-server-preserved
loop-server-preserved c =
    found_more c.loop-server.numbers.items c.loop-server.invariant
    (range_front c.loop-server.server c.args.count c.loop-server-test.true)
    c.in_ok-push.ensures.items
