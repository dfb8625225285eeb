use Rattle.std.proofs.lemmas.List.Elements.{All-cons, All-nil}
use Rattle.audit.proofs.Common.{[], evidence_data}
use Rattle.audit.specs.ByCovers.{IsHeldOver}
use Rattle.audit.proofs.question.by_covers.AtByCoversQuestion.find.Goals as goal

pub returns-in-Ok-clause-found : goal.returns-in-Ok-clause-found
returns-in-Ok-clause-found c =
    let Held = IsHeldOver (evidence_data c.args.evidence.now) in
    record {
      settled = tt;
      least = tt;
      fits = tt;
      over = All-cons Held c.in-Ok.found [] c.in-Ok.ensures.held (All-nil Held);
    }
