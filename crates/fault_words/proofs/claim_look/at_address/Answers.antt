use Rattle.fault_words.proofs.Common.{◌∙◌, codes, subst, sym, IsQuiet}
use Rattle.fault_words.proofs.Quiet.{said_between}
use Rattle.fault_words.proofs.claim_look.at_address.Goals as goal

pub returns-then-not-is_address-2 : goal.returns-then-not-is_address-2
returns-then-not-is_address-2 c =
    said_between _ (codes "; \"") _ (codes "\" is none") (c.of_field.ensures ∙ c.in_ok-seen.ensures.ok) tt
    (subst IsQuiet (sym c.as_str-then-not-is_address-2.ensures.value) c.in_ok-text.ensures.quiet) tt
