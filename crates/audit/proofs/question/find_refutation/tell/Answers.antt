use Rattle.audit.proofs.Common.{refl, evidence_data}
use Rattle.audit.proofs.Showing.{told_whole}
use Rattle.audit.proofs.FindRefutationShowing.{search_shows, search_shown}
use Rattle.audit.proofs.question.find_refutation.tell.Goals as goal

pub returns : goal.returns
returns g c =
    let found = c.find_refutation-found in
    let lawful = c.requires.evidence in
    let e = evidence_data c.args.evidence.now in
    let exact = rw c.deref.ensures.value at found.ensures.exact in
    told_whole (rw (c.outcome_of.ensures, exact) refl)
    (search_shown c.course_beyond_the_bound_contests_the_claim.ensures e c.outcome_of.result
    (rw c.outcome_of.ensures (search_shows e (λ refutation accepted. record {
      accepted = accepted;
      course = c.accepted_refutations_have_a_course.ensures e.claim e.collection.exchanges refutation lawful.claim
          lawful.exchanges.each lawful.exchanges.agree accepted;
      no_yes = λ certificate told. c.yes_and_refutation_never_meet.ensures e.claim e.collection.exchanges certificate
          refutation lawful.claim lawful.exchanges.each told accepted;
    }) found.result exact (rw c.deref.ensures.value at found.ensures.found)
    (rw c.deref.ensures.value at found.ensures.none)))) (c.publish_text.ensures _ c.found_refutation_text-text.ensures)
