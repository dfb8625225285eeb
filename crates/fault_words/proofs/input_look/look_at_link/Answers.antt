use Rattle.fault_words.proofs.Common.{◌∙◌, codes, ap, SeenData}
use Rattle.fault_words.proofs.Quiet.{decimal_is_quiet, quiet_append, said}
use Rattle.fault_words.proofs.input_look.look_at_link.Goals as goal

pub returns : goal.returns
returns c =
    let seen = ap (λ (d : SeenData). d.seen) c.of_text.ensures ∙ c.in_ok-format.ensures.ok in
    said _ (codes "; its link type is ") _ seen tt
    (quiet_append _ _ (decimal_is_quiet c.in-Some.link) c.link_name-name.ensures)
