use Rattle.std.proofs.Common.{rules}
use Rattle.audit.proofs.Common.{evidence_data, subst}
use Rattle.audit.specs.ByCovers.{AreHeld}
use Rattle.true_time.proofs.PutIntoPlace.{written_back}
use Rattle.audit.proofs.question.readings_by_covers.hulls_in_place.Goals as goal

pub loop-number-preserved : goal.loop-number-preserved
loop-number-preserved c =
    let before = c.loop-number.hulls in
    let after = c.put_hull.new.hulls in
    subst (AreHeld (evidence_data c.args.evidence.now))
    (written_back after before.items before.len (search rules) (search rules)) c.put_hull.ensures.held
