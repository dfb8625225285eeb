use Rattle.fault_words.proofs.Common.{subst, sym, IsQuiet}
use Rattle.fault_words.proofs.Quiet.{decimal_is_quiet}
use Rattle.fault_words.proofs.remedy.place_of.Goals as goal

pub returns-in_ok-format-in-Capture-TornRecord : goal.returns-in_ok-format-in-Capture-TornRecord
returns-in_ok-format-in-Capture-TornRecord c =
    subst IsQuiet (sym c.in_ok-format-in-Capture-TornRecord.ensures.ok) (decimal_is_quiet _)
