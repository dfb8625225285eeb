use Rattle.feasibility.proofs.SteadyClock.{refuted_with_drift, refuted_without_drift}
use Rattle.feasibility.proofs.refutation_laws.refutations_without_drift_stand.Goals as goal

pub returns : goal.returns
returns c = record { stand = refuted_with_drift; no_others = refuted_without_drift }
