use Rattle.std.proofs.Common.{inl, inr, refl}
use Rattle.command_line.proofs.run.run.Goals as goal

pub returns-in-Ok : goal.returns-in-Ok
returns-in-Ok g c = record {
  runs = inl (record {
    invocation = c.in-Ok.invocation;
    means = c.in-Ok.ensures;
    says = c.respond.ensures.says;
    asked_is = c.respond.ensures.asked;
  });
}

pub returns-in-Err : goal.returns-in-Err
returns-in-Err g c = record {
  runs = inr (record {
    untouched = record { unopened = refl; unwritten = refl };
    concludes = c.out_of_memory.ensures.concludes;
    conclusion_is = c.out_of_memory.ensures.exact;
    bare = c.out_of_memory.ensures.bare;
  });
}
