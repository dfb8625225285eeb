use Rattle.std.proofs.Common.{inl, refl}
use Rattle.summed_inputs.specs.Answer.{IsJudged}
use Rattle.summed_inputs.proofs.engine.answer_by_sums.Goals as goal

pub returns-in-Ok : goal.returns-in-Ok
returns-in-Ok g c =
    let lent = rw (
      c.new-claim.ensures,
      c.as_slice.ensures.value,
      c.new.ensures,
      c.as_slice-in-Ok.ensures.value,
      c.new-capture.ensures,
      c.as_slice-in-Ok-2.ensures.value,
    ) at c.answer.ensures in
    let answers = lent.answers in
    let judged : IsJudged _ _ _ _ _ _ _ _ = record {
      summed = c.in-Ok.ensures.held;
      answered = record {
        ended = _;
        sink_is = refl;
        unfailed = record { claim = refl; second = refl; capture = refl; sums = refl };
        finding = answers.promise.finding;
        found = answers.promise.found;
        answers = record {
          answer = answers.answer;
          promise = answers.promise.runs.reports;
          concludes = answers.concludes;
          conclusion_is = answers.conclusion_is;
        };
        shows = lent.shows;
      };
      unfailed = c.in-Ok.ensures.counts_faults;
    } in
    record {
      either = inl judged;
      judged = λ few. judged;
      closed = answers.concludes.1.closed;
      at_most = c.in-Ok.ensures.at_most;
    }
