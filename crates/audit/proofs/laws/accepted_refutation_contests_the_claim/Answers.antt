use Rattle.audit.proofs.Excess.{course_beyond}
use Rattle.audit.proofs.laws.accepted_refutation_contests_the_claim.Goals as goal

pub returns : goal.returns
returns c text bytes e refutation all is accepted =
    let xs = e.collection.exchanges in
    let read = c.what_is_read_is_said.ensures text bytes e all is in
    let refuted = (c.test_is_passed_where_refuted.ensures e.claim xs refutation).0 accepted in
    c.course_beyond_the_bound_contests_the_claim.ensures text bytes e all is
    (course_beyond e.claim xs refutation refuted.against
    (c.accepted_refutations_have_a_course.ensures e.claim xs refutation read.lawful read.kept.each read.kept.agree
    refuted))
