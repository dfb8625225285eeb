use Rattle.std.proofs.Common.{ℤ, ap, ◌∙◌}
use Rattle.std.proofs.lemmas.Int.{to_z-of_z}
use mir.Syntax.{w128}
use Rattle.checker.proofs.NoOverflow.{reading_kept}
use Rattle.claim_file.specs.Claim.{data_of as claim_data}
use Rattle.error_marks.specs.Mark.{high_mark, low_mark}
use Rattle.cover_checker.specs.Interval.{high_over, low_over}
use Rattle.cover_checker.proofs.MovedMark.{same_part}
use Rattle.cover_checker.proofs.interval.part_of.Goals as goal

pub returns : goal.returns
returns c =
    let claim = claim_data c.args.claim.now in
    let reading = reading_kept claim c.args.claim.now.lawful in
    same_part c.args.low.now.server
    (to_z-of_z w128 c.low_over.result (record { sfits = c.low_over.type_inv }) ∙ c.low_over.ensures
    ∙ ap (low_over claim.drift_ppb c.args.stretch)
    (c.low_mark.ensures.exact ∙ ap (λ (a : ℤ). low_mark a c.args.low.now) reading))
    (to_z-of_z w128 c.high_over.result (record { sfits = c.high_over.type_inv }) ∙ c.high_over.ensures
    ∙ ap (high_over claim.drift_ppb c.args.stretch)
    (c.high_mark.ensures.exact ∙ ap (λ (a : ℤ). high_mark a c.args.high.now) reading))
