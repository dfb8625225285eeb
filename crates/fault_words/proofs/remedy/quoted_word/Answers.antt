use Rattle.fault_words.proofs.Common.{codes, subst, sym, IsQuiet}
use Rattle.fault_words.proofs.Quiet.{said_between}
use Rattle.fault_words.proofs.remedy.quoted_word.Goals as goal

pub returns-clause-quiet : goal.returns-clause-quiet
returns-clause-quiet c = λ quiet.
    said_between _ (codes "'") _ (codes "'") c.in_ok-format.ensures.ok tt
    (subst IsQuiet (sym c.as_str.ensures.value) quiet) tt
