use Rattle.pairing.proofs.Common.{arith, common_steps}
use Rattle.pairing.proofs.Windows.{window_high-near}
use Rattle.pairing.proofs.compact_window.CompactWindow.new.Goals as goal

pub overflow_cast-result-2 : goal.overflow_cast-result-2
overflow_cast-result-2 c =
    let head = c.args.head.now in
    grind (arith, common_steps, window_high-near head.unit head.sec head.sub)
