use Rattle.std.proofs.Common.{◌≡◌, ℕ, List, Option, None, ap, inr, refl, subst, sym, true}
use Rattle.std.specs.Prelude.{String}
use Rattle.command_line.specs.Common.{FilesState, Global, Response, SinkState, world}
use Rattle.command_line.specs.Run.{IsFresh, RunsOn, RunsOnOutputs, words_in}
use Rattle.command_line.proofs.run.run_process.Goals as goal

-- a sink of which that is known is fresh
fresh : (sink : SinkState) (contents : Option (List ℕ)) →
    sink ≡ record { contents = contents; is_open = true; faults = 0 } → IsFresh sink
fresh sink contents is = record {
  is_open = ap (λ (s : SinkState). s.is_open) is;
  unfailed = ap (λ (s : SinkState). s.faults) is;
}

on_outputs : (given words : Option (List (String Global))) (files files' : FilesState)
    (out out' err err' : SinkState) (response : Response) → given ≡ words → IsFresh out → IsFresh err →
    RunsOn words (world files out err) (world files' out' err') response →
    RunsOnOutputs given files files' response
on_outputs given words files files' out out' err err' response is out_is err_is runs = record {
  out = out;
  out' = out';
  err = err;
  err' = err';
  out_is = out_is;
  err_is = err_is;
  runs = subst (λ (w : Option (List (String Global))). RunsOn w (world files out err) (world files' out' err') response)
      (sym is) runs;
}

pub returns-in-Ok : goal.returns-in-Ok
returns-in-Ok g c = on_outputs _ _ _ _ _ _ _ _ _ (ap words_in c.in-Ok.is) (fresh _ _ c.new.ensures)
    (fresh _ _ c.new-2.ensures) c.run_if_read.ensures.runs

pub returns-in-Err : goal.returns-in-Err
returns-in-Err g c = on_outputs _ None _ _ _ _ _ _ _ (ap words_in c.in-Err.is) (fresh _ _ c.new.ensures)
    (fresh _ _ c.new-2.ensures) (inr (record {
      untouched = record { unopened = refl; unwritten = refl };
      concludes = c.out_of_memory.ensures.concludes;
      conclusion_is = c.out_of_memory.ensures.exact;
      bare = c.out_of_memory.ensures.bare;
    }))
