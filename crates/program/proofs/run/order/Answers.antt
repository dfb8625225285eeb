use Rattle.std.proofs.Common.{arith}
use Rattle.program.proofs.run.order.Goals as goal

pub ask_paths-hindrance-requires-clause-room : goal.ask_paths-hindrance-requires-clause-room
ask_paths-hindrance-requires-clause-room g c =
    let may = c.requires.files.opened in
    let opened = c.in-Ok.ensures.opened in
    omega arith

pub ask_paths-hindrance-requires-clause-drafts : goal.ask_paths-hindrance-requires-clause-drafts
ask_paths-hindrance-requires-clause-drafts g c = rw c.when_shown.ensures.undrafted c.requires.files.drafts
