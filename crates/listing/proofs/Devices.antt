-- How often the device of a listing fails.
use Rattle.std.proofs.Common.{rules}
use Rattle.listing.proofs.Common.{◌≡◌, ℕ, Result, Bool, Outcome, RunFault, is_device, CountsCapture}
use Rattle.report.specs.declared.fault.Input.{Input}

-- ending a run asks no input's device
pub closed_counts : {ran answer : Result Outcome RunFault} {before after : ℕ} →
    ((which : Input → Bool) → is_device which answer ≡ is_device which ran) →
    CountsCapture ran before after → CountsCapture answer before after
closed_counts {before = before} {after = after} same counts = search rules
