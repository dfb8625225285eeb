use Rattle.std.proofs.Common.{[]}
use Rattle.std.proofs.lemmas.Result.{IfOk-weaker}
use Rattle.command_table.specs.Commands as table
use Rattle.command_table.proofs.program.ntpaudit.Goals as goal

pub returns : goal.returns
returns c =
    let one = c.in_ok-program.ensures [] table.list c.bare-program.ensures c.declaration.ensures in
    let two = c.in_ok-program-2.ensures _ table.samples one c.declaration-2.ensures in
    let three = c.in_ok-program-3.ensures _ table.at two c.declaration-3.ensures in
    let four = c.in_ok-program-4.ensures _ table.order three c.declaration-4.ensures in
    let five = c.in_ok-program-5.ensures _ table.settle four c.declaration-5.ensures in
    let six = c.in_ok-program-6.ensures _ table.check five c.declaration-6.ensures in
    let seven = c.in_ok-program-7.ensures _ table.find six c.declaration-7.ensures in
    let eight = c.in_ok-program-8.ensures _ table.refute seven c.declaration-8.ensures in
    IfOk-weaker c.with-9.result _ _ (λ new adds. adds _ table.envelope eight c.declaration-9.ensures) c.with-9.ensures
