use Rattle.feasibility.proofs.WorkedDrift.{drift_explains, no_steady_clock, no_slow_clock}
use Rattle.feasibility.proofs.refutation_laws.worked_drift_is_seen.Goals as goal

pub returns : goal.returns
returns c = record {
  drifting = drift_explains c.worked_refutations_stand.ensures.beyond;
  not_steady = no_steady_clock;
  too_slow = no_slow_clock;
}
