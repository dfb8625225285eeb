use Rattle.std.proofs.Common.{refl}
use Rattle.span_cover.proofs.BestSample.{best_from-step, best_from-skipped, best_from-end}
use Rattle.span_cover.proofs.choice.first_best.Goals as goal

pub loop-number-init : goal.loop-number-init
loop-number-init c = best_from-end _ c.args.server c.args.samples.now

pub loop-number-preserved : goal.loop-number-preserved
loop-number-preserved c =
    best_from-skipped _ c.args.server c.loop-number.number c.args.samples.now _ c.loop-number-test.true
    c.loop-number.auto.number c.if-sample-server.false c.loop-number.best c.loop-number.invariant

pub loop-number-preserved-then-sample-server : goal.loop-number-preserved-then-sample-server
loop-number-preserved-then-sample-server c =
    best_from-step _ c.args.server c.loop-number.number c.args.samples.now _ c.loop-number-test.true
    c.loop-number.auto.number c.if-sample-server.true _ c.loop-number.best c.first_of-best.result refl
    c.loop-number.invariant c.first_of-best.ensures
