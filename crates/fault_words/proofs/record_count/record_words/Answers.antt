use Rattle.std.proofs.Common.{codes}
use Rattle.fault_words.proofs.Quiet.{decimal_is_quiet, said_between}
use Rattle.fault_words.proofs.record_count.record_words.Goals as goal

pub returns-in_ok-format-in-Some : goal.returns-in_ok-format-in-Some
returns-in_ok-format-in-Some c =
    said_between _ (codes "; ") _ (codes " whole records stand before it") c.in_ok-format-in-Some.ensures.ok tt
    (decimal_is_quiet c.in-Some.count) tt
