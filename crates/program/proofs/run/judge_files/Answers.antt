use Rattle.std.proofs.Common.{inl, refl, subst}
use Rattle.report.specs.declared.fault.Input.{Input}
use Rattle.program.specs.Invocation.{judged_places}
use Rattle.program.specs.Opening.{IsFirstUnopened, order_of}
use Rattle.program.proofs.run.judge_files.Goals as goal

pub returns-in-Err : goal.returns-in-Err
returns-in-Err g c = record {
  answers = inl (
    record {
      fault = c.in-Err.fault;
      fault_is = subst (λ (which : Input). IsFirstUnopened (g.Fs.Files.state c.args.files.now).standing
          (order_of (judged_places which c.args.paths.now)) (g.Fs.Files.state c.args.files.now).opened
          (g.Fs.Files.state c.open_judged.new.files).opened c.in-Err.fault)
          c.second.ensures c.in-Err.ensures.fault;
      untouched = refl;
      undrafted = c.in-Err.ensures.kept;
      concludes = c.conclude.ensures.concludes;
      conclusion_is = c.conclude.ensures.exact;
    },
    refl,
  );
}
