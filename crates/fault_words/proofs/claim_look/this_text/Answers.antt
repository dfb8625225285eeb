use Rattle.fault_words.proofs.Common.{◌∙◌, codes, ap, subst, sym, SeenData, IsQuiet}
use Rattle.fault_words.proofs.Quiet.{said_between}
use Rattle.fault_words.proofs.claim_look.this_text.Goals as goal

pub returns : goal.returns
returns c =
    said_between _ (codes ": \"") _ (codes "\"")
    (ap (λ (d : SeenData). d.seen) c.of_text.ensures ∙ c.in_ok-format.ensures.ok) tt
    (subst IsQuiet (sym c.as_str.ensures.value) c.in_ok-text.ensures.quiet) tt
