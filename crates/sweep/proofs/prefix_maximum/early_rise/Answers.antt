use Rattle.sweep.proofs.Common.{ℕ, ◌-◌, ◌*◌, ◌/◌, ap, ◌∙◌, billion}
use Rattle.sweep.proofs.MaximumList.{IsEarlyLevel-room}
use Rattle.sweep.proofs.prefix_maximum.early_rise.Goals as goal

pub returns : goal.returns
returns c extremes are =
    let height = c.height_upto-height.result in
    let end = c.args.stretch.end in
    let m = billion - c.args.drift_ppb in
    IsEarlyLevel-room c.args.drift_ppb c.requires.rate extremes c.args.stretch height
    (c.height_upto-height.ensures c.args.drift_ppb extremes are) _
    (ap (λ (n : ℕ). n / m) c.saturating_sub.ensures ∙ ap (λ (r : ℕ). (height - r * end) / m) c.from-rate.ensures)
