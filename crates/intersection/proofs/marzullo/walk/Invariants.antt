use Rattle.intersection.proofs.Common.{◌≡◌, ◌+◌, drop, first_reached}
use Rattle.intersection.proofs.marzullo.walk.Given as goal

abbrev pub invariant-loop-end : goal.invariant-loop-end
invariant-loop-end l = record {
  rest : first_reached l.entrance l.needed 0 0 l.ends ≡ first_reached l.entrance l.needed l.entered l.left
      (drop l.end-index l.ends);
  all_met : l.entered + l.left ≡ l.end-index;
  looked : l.looked ≡ l.end-index;
}
