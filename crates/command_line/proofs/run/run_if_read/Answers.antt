use Rattle.std.proofs.Common.{inl, inr, refl}
use Rattle.command_line.proofs.run.run_if_read.Goals as goal

pub returns-in-Some : goal.returns-in-Some
returns-in-Some g c = record { runs = rw (c.in-Some.is, ← c.as_slice.ensures.value) c.run.ensures.runs }

pub returns-in-Ok : goal.returns-in-Ok
returns-in-Ok g c = record {
  runs = rw c.in-None.is (inl (record {
    invocation = c.in-Ok.refusal;
    refused = c.in-Ok.ensures;
    says = c.respond.ensures.says;
    asked_is = c.respond.ensures.asked;
  }));
}

pub returns-in-Err : goal.returns-in-Err
returns-in-Err g c = record {
  runs = rw c.in-None.is (inr (record {
    untouched = record { unopened = refl; unwritten = refl };
    concludes = c.out_of_memory.ensures.concludes;
    conclusion_is = c.out_of_memory.ensures.exact;
    bare = c.out_of_memory.ensures.bare;
  }));
}
