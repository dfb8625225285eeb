use Rattle.finder.proofs.Common.{ℕ, pos, ◌≡◌, refl, sym, subst, ◌∙◌, arith, inr, data_of, IsFirst}
use Rattle.finder.proofs.CarriedBound.{finds_least, none_of}
use Rattle.finder.proofs.carried.least_bound_by.Goals as goal

pub returns : goal.returns
returns c samples tabled =
    let claim = data_of c.args.claim.now in
    let l = c.loop-least in
    let same : l.least ≡ l.bound_ns = omega arith in
    finds_least samples claim c.args.claim.now.lawful tabled.of_claim (record { bound_ns = l.bound_ns; tick = l.tick })
    l.invariant.small (l.invariant.carried samples tabled)
    (subst (λ (n : ℕ). IsFirst samples claim n (pos l.tick)) same (l.invariant.first samples tabled))
    (none_of _ _ c.in_ok-widest.widest (sym c.is_some.ensures ∙ c.if-is_some.false)
    (c.in_ok-widest.ensures samples tabled))

pub loop-least-preserved : goal.loop-least-preserved
loop-least-preserved c =
    let before = c.loop-least.invariant in
    record {
      in_order = omega (arith, c.trial-tried_ns.ensures.below_high);
      small = before.small;
      carried = before.carried;
      first = λ samples tabled. inr (
        c.trial-tried_ns.result,
        refl,
        rw c.in-Some.is at (c.in_ok-try_bound.ensures samples tabled),
      );
    }

pub loop-least-preserved-in-None : goal.loop-least-preserved-in-None
loop-least-preserved-in-None c =
    let before = c.loop-least.invariant in
    record {
      in_order = c.trial-tried_ns.ensures.from_low;
      small = omega (arith, c.trial-tried_ns.ensures.below_high, before.small);
      carried = λ samples tabled. rw c.in-None.is at (c.in_ok-try_bound.ensures samples tabled);
      first = before.first;
    }
