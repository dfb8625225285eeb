use Rattle.std.proofs.Common.{◌∙◌, sym, refl, Some, None}
use Rattle.span_cover.proofs.BestSample.{best_of-is, ends_kept, told}
use Rattle.span_cover.proofs.choice.best.Goals as goal

pub returns-in_err-low-clause-exact : goal.returns-in_err-low-clause-exact
returns-in_err-low-clause-exact c =
    let kept = ends_kept c.args.p c.args.q c.requires.piece in
    c.from_residual.ensures
    ∙ sym (best_of-is c.args.samples.now c.args.server c.args.p c.args.q c.args.drift_ppb None _
    (sym (rw (kept.0, kept.1) at c.in_err-low.ensures)) refl)

pub returns-in_err-low-clause-none : goal.returns-in_err-low-clause-none
returns-in_err-low-clause-none c = (told _ _ _ _ _ _ (returns-in_err-low-clause-exact c)).0

pub returns-in_err-high-clause-exact : goal.returns-in_err-high-clause-exact
returns-in_err-high-clause-exact c =
    let kept = ends_kept c.args.p c.args.q c.requires.piece in
    c.from_residual-in_err-high.ensures
    ∙ sym (best_of-is c.args.samples.now c.args.server c.args.p c.args.q c.args.drift_ppb (Some c.in_ok-low.low) None
    (sym (rw (kept.0, kept.1) at c.in_ok-low.ensures)) (sym (rw (kept.0, kept.1) at c.in_err-high.ensures)))

pub returns-in_err-high-clause-none : goal.returns-in_err-high-clause-none
returns-in_err-high-clause-none c = (told _ _ _ _ _ _ (returns-in_err-high-clause-exact c)).0

pub returns-clause-exact : goal.returns-clause-exact
returns-clause-exact c =
    let kept = ends_kept c.args.p c.args.q c.requires.piece in
    sym (best_of-is c.args.samples.now c.args.server c.args.p c.args.q c.args.drift_ppb
    (Some c.in_ok-low.low) (Some c.in_ok-high.high)
    (sym (rw (kept.0, kept.1) at c.in_ok-low.ensures)) (sym (rw (kept.0, kept.1) at c.in_ok-high.ensures)))

pub returns-clause-low : goal.returns-clause-low
returns-clause-low c = (told _ _ _ _ _ _ (returns-clause-exact c)).1

pub returns-clause-high : goal.returns-clause-high
returns-clause-high c = (told _ _ _ _ _ _ (returns-clause-exact c)).2

pub returns-clause-none : goal.returns-clause-none
returns-clause-none c = (told _ _ _ _ _ _ (returns-clause-exact c)).0
