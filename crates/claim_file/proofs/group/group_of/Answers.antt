use Rattle.claim_file.proofs.Common.{◌≡◌, ◌∙◌, sym, ap, unwrap_or, true, false, ◌==◌, list_any}
use Rattle.claim_file.proofs.Groups.{group_at}
use Rattle.claim_file.proofs.group.group_of.Goals as goal

pub returns-then-contains-clause-exact : goal.returns-then-contains-clause-exact
returns-then-contains-clause-exact c =
    let group = c.index-groups-number.result in
    let holds : list_any (λ s. s == c.args.server) group.items ≡ true = cc in
    let at = group_at c.args.server c.args.groups.now c.loop-number.number group
    c.index-groups-number.is c.loop-number-test.true in
    sym (c.loop-number.invariant ∙ ap (λ o. unwrap_or o 0) (rw holds at at))

pub loop-number-preserved : goal.loop-number-preserved
loop-number-preserved c =
    let group = c.index-groups-number.result in
    let holds : list_any (λ s. s == c.args.server) group.items ≡ false = cc in
    let at = group_at c.args.server c.args.groups.now c.loop-number.number group
    c.index-groups-number.is c.loop-number-test.true in
    c.loop-number.invariant ∙ ap (λ o. unwrap_or o 0) (rw holds at at)
