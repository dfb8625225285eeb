use Rattle.fault_words.proofs.Common.{codes, sym, subst, IsQuiet}
use Rattle.fault_words.proofs.Quiet.{quiet_append, visible_is_quiet}
use Rattle.fault_words.proofs.quote.quoted.Goals as goal
use Rattle.fault_words.proofs.quote.quoted.Goals.{then-count-gt-MAX_SHOWN+in_ok-push_str, else-count-gt-MAX_SHOWN}

pub returns-clause-quiet : goal.returns-clause-quiet
returns-clause-quiet c =
    let quiet = c.in_ok-out.ensures.quiet in
    elim c.if-count-gt-MAX_SHOWN.branch [
      | then-count-gt-MAX_SHOWN+in_ok-push_str w ↦
          rw w.out-is
          (subst IsQuiet (sym w.in_ok-push_str.ensures.bytes)
          (quiet_append _ (codes "..") quiet (visible_is_quiet (codes "..") tt)))
      | else-count-gt-MAX_SHOWN w ↦ rw w.out-is quiet
    ]
