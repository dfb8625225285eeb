use Rattle.sweep.proofs.Common.{ℕ, ◌-◌, ◌/◌, ap, ◌∙◌, map, subst, sym, billion, mirrored_extreme, AreMaximaOf}
use Rattle.sweep.proofs.Level.{IsLevelOver-higher}
use Rattle.sweep.proofs.table.level_over.Goals as goal

pub returns-clause-level : goal.returns-clause-level
returns-clause-level c extremes are lawful some =
    let ppb = c.args.drift_ppb in
    let early = c.early_rise-early.result in
    let late = c.early_rise-late.result in
    IsLevelOver-higher c.widening_is_one_number.ensures.is ppb c.requires.rate extremes c.args.stretch
    lawful c.requires.stretch some early late
    (c.early_rise-early.ensures extremes
    (subst (AreMaximaOf ppb extremes) (sym c.as_slice.ensures.value) are.early))
    (rw (c.mirrored_tick.ensures, c.mirrored_tick-2.ensures) at
    (c.early_rise-late.ensures (map mirrored_extreme extremes)
    (subst (AreMaximaOf ppb (map mirrored_extreme extremes)) (sym c.as_slice-2.ensures.value) are.late)))
    _ (c.level_of-level.ensures ∙ ap (λ (n : ℕ). n / (billion - ppb)) c.max.ensures)
