use Rattle.std.proofs.Common.{◌≡◌, ◌∙◌, ℤ, false, ap, ap₂, sym}
use Rattle.std.proofs.lemmas.Int.{to_z-of_z}
use mir.Syntax.{w128}
use Rattle.checker.proofs.NoOverflow.{reading_kept}
use Rattle.claim_file.specs.Claim.{data_of}
use Rattle.cover_checker.specs.Interval.{missed_by}
use Rattle.error_marks.specs.Mark.{high_mark, low_mark}
unfoldable use Rattle.audit_text.specs.CoverLines.{apart_line}
use Rattle.audit_text.specs.Table.{is_plain}
use Rattle.audit_text.proofs.cover_lines.add_apart.Goals as goal

pub returns : goal.returns
unfolding apart_line
returns c =
    let claim = data_of c.args.claim.now in
    let reading = reading_kept claim c.args.claim.now.lawful in
    let ticks = to_z-of_z w128 c.missed_by.result (record { sfits = c.missed_by.type_inv }) ∙ c.missed_by.ensures
    ∙ ap₂ (missed_by claim.drift_ppb)
    (c.low_mark-low.ensures.exact ∙ ap (λ (a : ℤ). low_mark a c.args.low.now) reading)
    (c.high_mark-high.ensures.exact ∙ ap (λ (a : ℤ). high_mark a c.args.high.now) reading) in
    let person : is_plain c.args.style ≡ false = sym c.is_plain.ensures ∙ c.if-is_plain.false in
    rw person (rw ticks at c.add_line.ensures)
