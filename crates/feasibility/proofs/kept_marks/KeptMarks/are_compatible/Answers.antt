use Rattle.feasibility.proofs.Common.{ap₂, ◌∙◌, all_compatible}
use Rattle.feasibility.proofs.DriftTest.{all_from, all_to, same_answer}
use Rattle.feasibility.proofs.kept_marks.KeptMarks.are_compatible.Goals as goal

pub returns : goal.returns
returns c =
    let ppb = c.args.drift_ppb in
    let lows = c.deref_mut.result.now in
    let highs = c.deref_mut-2.result.now in
    same_answer c.all_compatible.result (all_compatible ppb lows highs)
    (λ passes. all_to ppb lows highs (c.all_compatible.ensures.exact.0 passes))
    (λ passes. c.all_compatible.ensures.exact.1 (all_from ppb lows highs passes))
    ∙ ap₂ (all_compatible ppb) c.deref_mut.ensures.value c.deref_mut-2.ensures.value
