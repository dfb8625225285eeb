use Rattle.std.proofs.Common.{length}
use Rattle.checker.proofs.RefutationCourse.{other_bound, other_bound_in_windows, some_fits_any_bound}
use Rattle.checker.proofs.refutation_laws.courses_fit_whatever_the_bound.Goals as goal

pub returns-clause-fits : goal.returns-clause-fits
returns-clause-fits c = other_bound

pub returns-clause-in_windows : goal.returns-clause-in_windows
returns-clause-in_windows c = other_bound_in_windows

pub returns-clause-some_course : goal.returns-clause-some_course
returns-clause-some_course c claim bound bound_ns xs refutation lawful each refuted =
    some_fits_any_bound claim bound bound_ns xs refutation lawful.reading_not_negative (length claim.servers) each
    refuted
