use Rattle.std.proofs.Common.{refl, true≢false, sym, ◌∙◌}
use Rattle.report.specs.Run.{no_feed}
use Rattle.summed_inputs.specs.Holding.{feeds}
use Rattle.program.proofs.Over.{runs_over, twice_over}
use Rattle.program.proofs.drafted.draft.Goals as goal

pub returns-then-is_human : goal.returns-then-is_human
returns-then-is_human g c = record {
  alone = λ plain. absurd (true≢false (sym c.if-is_human.true ∙ c.is_human.ensures ∙ plain));
  told = λ human. record {
    after = feeds _ _ _;
    runs = twice_over (λ none. no_feed) g.N.Feed.state c.run_twice.ensures;
  };
}

pub returns : goal.returns
returns g c = record {
  alone = λ plain. record {
    after = feeds _ _ _;
    runs = runs_over (λ none. no_feed) g.N.Feed.state c.run.ensures.runs;
    shows = c.run.ensures.shows;
    untold = refl;
  };
  told = λ human. absurd (true≢false (sym human ∙ sym c.is_human.ensures ∙ c.if-is_human.false));
}
