-- What the readings of a second input show.
use Rattle.audit.proofs.Common.{List, EvidenceData, ShowsOf, Yes, get_or, samples_in}
use Rattle.audit.specs.Check.{GiveSecond}
use Rattle.audit.specs.Common.{HoldsTrueTime, ReadingData, hull_of, times_read}
use Rattle.audit.specs.Readings.{HoldTrueTime, readings}
use Rattle.audit.specs.Second.{times_said, times_second}
use Rattle.audit.proofs.Showing.{of_inputs, of_second}

-- what holds of every reading holds of those that are said
pub each_holds : (e : EvidenceData) (said : List ReadingData) → ((r : ReadingData) →
    HoldsTrueTime e.claim (samples_in e) r (hull_of (samples_in e) e.claim r)) → HoldTrueTime said e
each_holds e said every = λ k d within. every (get_or said k d)

-- the bytes of any inputs that say the readings and give the evidence show the same
pub times_shown : (e : EvidenceData) (said : List ReadingData) → HoldTrueTime said e →
    ShowsOf readings times_second (times_said said) e Yes
times_shown e said h claim second capture are =
    of_inputs e (GiveSecond times_read HoldTrueTime second.remaining)
    (of_second times_said (λ t u same. cc) said times_read HoldTrueTime e h second.remaining are.second_is)
    claim second capture are
