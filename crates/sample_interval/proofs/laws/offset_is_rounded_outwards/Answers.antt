use Rattle.sample_interval.proofs.OnWire.{IsSignedFloor-half_down, IsSignedCeiling-half_up}
use Rattle.sample_interval.proofs.laws.offset_is_rounded_outwards.Goals as goal

pub returns-clause-from : goal.returns-clause-from
returns-clause-from c = λ x allowance. IsSignedFloor-half_down _

pub returns-clause-to : goal.returns-clause-to
returns-clause-to c = λ x allowance. IsSignedCeiling-half_up _
