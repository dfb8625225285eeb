use Rattle.finder.proofs.Common.{refl, subst, IsInHull, samples_of, next_tick, stretch_over}
use Rattle.checker.proofs.Exchange.{are_samples}
use Rattle.feasibility.proofs.Covers.{course_gives_cover, cover_gives_course_at}
use Rattle.finder.proofs.CarriedBound.{tick_forward}
use Rattle.finder.proofs.SettlementAnswer.{observed}
use Rattle.finder.proofs.Verdict.{best_held}
use Rattle.finder.proofs.laws.courses_leave_no_hull_empty.Goals as goal

pub returns : goal.returns
returns c claim xs lawful each some p tick empty =
    let samples = samples_of xs claim in
    let next = next_tick samples claim p in
    let (course, fits, reads, shares) =
    cover_gives_course_at claim xs lawful each p (course_gives_cover claim xs lawful each some) in
    subst (IsInHull course) empty
    (best_held claim samples (stretch_over p next) lawful (are_samples xs claim lawful each) xs course refl fits.fits
    (observed claim xs p next course (tick_forward samples claim lawful p tick) reads))
