use Rattle.feasibility.proofs.refutation_laws.refutations_are_settled.Goals as goal

pub returns : goal.returns
returns c claim xs refutation stands lawful each exact = record {
  exact = exact;
  course = λ holds agree.
      c.accepted_refutations_have_a_course.ensures claim xs refutation lawful each agree (exact.0 holds);
  converse = λ against course shows.
      exact.1 (c.refutations_stand_where_a_course_shows_them.ensures claim xs refutation course lawful against shows);
  no_yes = λ holds certificate accepted.
      c.yes_and_refutation_never_meet.ensures claim xs certificate refutation lawful each accepted (exact.0 holds);
}
