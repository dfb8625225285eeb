use Rattle.fault_words.proofs.Common.{◌∙◌, codes, ap, refl, SeenData}
use Rattle.fault_words.proofs.Quiet.{decimal_is_quiet, quiet_append, said}
use Rattle.fault_words.proofs.input_look.no_json.Goals as goal

pub returns-in-Err-2 : goal.returns-in-Err-2
returns-in-Err-2 c =
    said _ (codes " at line ") _ (ap (λ (d : SeenData). d.seen) c.of_text.ensures ∙ c.in_ok-format-in-Err-2.ensures.ok) tt
    (quiet_append _ _ (decimal_is_quiet c.line-line.result)
    (said _ (codes ", column ") _ refl tt (decimal_is_quiet c.column-column.result)))
