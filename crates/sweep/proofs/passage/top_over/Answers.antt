use Rattle.sweep.proofs.Common.{◌+◌}
use Rattle.sweep.proofs.BlockLimits.{reached_below}
use Rattle.sweep.proofs.PassageLevels.{top_some}
use Rattle.sweep.proofs.passage.top_over.Goals as goal

pub returns-else-lead-wanted-clause-top : goal.returns-else-lead-wanted-clause-top
returns-else-lead-wanted-clause-top c =
    let ppb = c.args.drift_ppb in
    let queue = c.args.queue.now in
    let stretch = c.args.stretch in
    let wanted = c.in_ok-wanted.wanted in
    let is = c.in_ok-wanted.ensures in
    let here = reached_below queue (stretch.begin + stretch.end) c.args.count wanted.height c.requires.upto _ _
    c.requires.leads.of_one is.reached in
    top_some ppb c.requires.rate queue stretch c.args.count c.args.lead c.requires.upto c.requires.leads wanted is
    c.first-index.result
    (c.first-index.ensures.first (stretch.begin + stretch.end) here.0 c.requires.upto here.1)
