use Rattle.std.proofs.lemmas.List.Elements.{All-set}
use Rattle.std.specs.Prelude.{IfSome, Option, Some}
use Rattle.audit.proofs.Common.{evidence_data}
use Rattle.audit.specs.ByCovers.{IsHeldOver}
use Rattle.audit.specs.declared.question.by_covers.HullOver.{HullOver}
use Rattle.audit.proofs.question.readings_by_covers.put_hull.Goals as goal

pub returns-then-number-readings : goal.returns-then-number-readings
returns-then-number-readings c =
    let is_held = λ (found : Option HullOver). IfSome found (IsHeldOver (evidence_data c.args.evidence.now)) in
    let one = Some c.hull_over.result in
    record { held = All-set is_held c.args.hulls.now c.args.number one c.hull_over.ensures.held c.requires.hulls }
