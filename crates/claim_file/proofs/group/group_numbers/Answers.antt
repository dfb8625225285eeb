use Rattle.claim_file.proofs.Common.{map, ap, ◌∙◌, ◌++◌, ◌∷◌, [], group_of}
use Rattle.claim_file.proofs.Groups.{range_front, found_more}
use Rattle.claim_file.proofs.group.group_numbers.Goals as goal

pub loop-server-preserved : goal.loop-server-preserved
loop-server-preserved c =
    found_more c.loop-server.numbers.items c.loop-server.invariant
    (ap (map (group_of (map (λ list. list.items) c.args.groups.now)))
    (range_front c.loop-server.server c.args.count c.loop-server-test.true))
    (c.in_ok-push.ensures.items ∙ ap (λ n. c.loop-server.numbers.items ++ n ∷ []) c.group_of.ensures.exact)
