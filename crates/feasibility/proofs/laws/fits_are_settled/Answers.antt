use Rattle.feasibility.proofs.laws.fits_are_settled.Goals as goal

pub returns-clause-course : goal.returns-clause-course
returns-clause-course c claim xs fits lawful each exact =
    let small = c.some_course_fits_where_a_cover_is_small.ensures claim xs lawful each in
    record {
      exact = exact;
      cover = (λ holds. small.0 (exact.0 holds), λ cover. exact.1 (small.1 cover));
    }

pub returns-clause-cover : goal.returns-clause-cover
returns-clause-cover c claim xs fits lawful each exact =
    let small = c.some_course_fits_where_a_cover_is_small.ensures claim xs lawful each in
    record {
      exact = (λ holds. small.1 (exact.0 holds), λ course. exact.1 (small.0 course));
      cover = exact;
    }
