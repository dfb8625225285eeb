use Rattle.std.proofs.Common.{◌∙◌, codes}
use Rattle.fault_words.proofs.Quiet.{decimal_is_quiet, said}
use Rattle.fault_words.proofs.claim_look.at_range.Goals as goal

pub returns-then-count-eq0 : goal.returns-then-count-eq0
returns-then-count-eq0 c =
    said _ (codes "; it has ") _ (c.of_field.ensures ∙ c.in_ok-seen.ensures.ok) tt
    (decimal_is_quiet c.server_count-count.result)
