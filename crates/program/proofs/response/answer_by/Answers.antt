use Rattle.std.proofs.Common.{refl}
use Rattle.summed_inputs.specs.Holding.{feeds}
use Rattle.program.proofs.Over.{answers_over}
use Rattle.program.proofs.response.answer_by.Goals as goal

pub returns-in-Some : goal.returns-in-Some
returns-in-Some g c = rw c.in-Some.is (
  refl,
  record { after = feeds _ _ _; judges = rw c.as_slice-sums.ensures.value at c.answer_by_sums-read.ensures },
)

pub returns : goal.returns
returns g c = rw c.in-None.is (
  record {
    after = feeds _ _ _;
    answers = answers_over g.T.SecondSource.state g.N.Feed.state c.answer.ensures.answers;
    shows = c.answer.ensures.shows;
  },
  refl,
)
