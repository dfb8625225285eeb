use Rattle.fault_words.proofs.Common.{codes, refl, subst, sym, IsQuiet}
use Rattle.fault_words.proofs.Quiet.{quiet_append, said}
use Rattle.fault_words.proofs.remedy.both.Goals as goal

pub returns-clause-quiet : goal.returns-clause-quiet
returns-clause-quiet c = λ first second.
    subst IsQuiet (sym c.in_ok-format.ensures.ok) (quiet_append _ _ first (said _ (codes " ") _ refl tt second))
