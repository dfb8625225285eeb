use Rattle.std.proofs.lemmas.List.Elements.{All-head}
use Rattle.audit.proofs.Common.{[], evidence_data}
use Rattle.audit.specs.ByCovers.{IsHeldAt, IsHeldOver}
use Rattle.audit.specs.Reading.{ticks_asked}
use Rattle.audit.proofs.CoversShowing.{report_is}
use Rattle.audit.proofs.Showing.{of_evidence, told_whole}
use Rattle.audit.proofs.question.by_covers.AtByCoversQuestion.tell.Goals as goal

pub returns : goal.returns
returns g c =
    let e = evidence_data c.args.evidence.now in
    let found = c.args.found.now in
    let r = ticks_asked c.args.self.reading.begin c.args.self.reading.end in
    told_whole (report_is c.args.style r e found c.requires.found)
    (of_evidence (IsHeldAt r) e
    (found, c.requires.found, All-head (IsHeldOver e) found [] c.requires.finding.over))
    (c.publish_text.ensures _ c.hull_text-text.ensures)
