use Rattle.fault_words.proofs.Common.{◌∙◌, codes, subst, sym, IsQuiet}
use Rattle.fault_words.proofs.Quiet.{said}
use Rattle.fault_words.proofs.claim_look.at_field.Goals as goal

pub returns : goal.returns
returns c =
    said _ (codes "; it is ") _ (c.of_field-2.ensures ∙ c.in_ok-seen.ensures.ok) tt
    (subst IsQuiet (sym c.as_str-2.ensures.value) c.in_ok-text-2.ensures.quiet)
