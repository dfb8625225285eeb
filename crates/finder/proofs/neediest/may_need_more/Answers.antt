use Rattle.finder.proofs.Common.{data_of, holds}
use Rattle.finder.proofs.GapSearch.{needs_within}
use Rattle.finder.proofs.neediest.may_need_more.Goals as goal

pub returns-then-best-all-2 : goal.returns-then-best-all-2
returns-then-best-all-2 c fails samples tabled =
    needs_within samples (data_of c.args.claim.now) (holds c.args.cover) c.args.claim.now.lawful tabled.of_claim
    c.args.gap c.requires.gap _ _ (c.in-Some.ensures samples tabled) c.if-best-all.false

pub returns-else-best-all-2 : goal.returns-else-best-all-2
returns-else-best-all-2 c fails samples tabled =
    needs_within samples (data_of c.args.claim.now) (holds c.args.cover) c.args.claim.now.lawful tabled.of_claim
    c.args.gap c.requires.gap _ _ (c.in-Some.ensures samples tabled) c.if-best-all.false
