-- What a run promises of its inputs, it promises of their feeds.
use Rattle.std.proofs.Common.{ℕ, List, Option, arith}
use Rattle.std.specs.Prelude.{Result}
use Rattle.std.proofs.lemmas.Result.{IfErr-weaker}
use Rattle.byte_stream.specs.State.{FeedState, SinkState}
use Rattle.report.specs.Reports.{Report}
use Rattle.report.specs.Run.{RunState}
use Rattle.report.specs.Runs.{Runs}
use Rattle.report.specs.declared.conclusion.Conclusion.{Conclusion}
use Rattle.report.specs.declared.fault.Outcome.{Outcome}
use Rattle.report.specs.declared.fault.RunFault.{RunFault}
use Rattle.audit.specs.Question.{AskedData}
use Rattle.audit.specs.Run.{AnswersFor, HasRead, RunsFor, RunsTwice}
use Rattle.audit.specs.Second.{SecondKind}

module _ {T F : Type 0} (s : T → FeedState) (f : F → FeedState) {before after : RunState}
    {second second' : T} {capture capture' : F} where
  runs_of : {answer : Result Outcome RunFault} {report : Option Report} {most : ℕ} {Has : Option (List ℕ) → Type 0} →
      Runs report most Has before after second second' capture capture' answer →
      Runs report most Has before after (s second) (s second') (f capture) (f capture') answer
  runs_of {answer} runs = grind (arith, IfErr-weaker)

module _ {T F : Type 0} (s : T → FeedState) (f : F → FeedState) {asked : AskedData} {before after : RunState}
    {second second' : T} {capture capture' : F} where
  pub runs_over : {answer : Result Outcome RunFault} →
      RunsFor asked before after second second' capture capture' answer →
      RunsFor asked before after (s second) (s second') (f capture) (f capture') answer
  runs_over told = record { finding = told.finding; found = told.found; runs = runs_of s f told.runs }

  pub twice_over : {out out' : SinkState} {answer : Result Outcome RunFault} →
      RunsTwice asked before after second second' capture capture' out out' answer →
      RunsTwice asked before after (s second) (s second') (f capture) (f capture') out out' answer
  twice_over told = grind (arith, runs_of)

  pub answers_over : {err err' : SinkState} {conclusion : Conclusion} →
      AnswersFor asked before after second second' capture capture' err err' conclusion →
      AnswersFor asked before after (s second) (s second') (f capture) (f capture') err err' conclusion
  answers_over told = grind (arith, runs_over)

module _ {F A : Type 0} (f : F → FeedState) {kind : SecondKind} {before after : RunState} {capture capture' : F} where
  pub read_over : {read : Result A RunFault} →
      HasRead {T = Unit {0}} kind before after (tt {0}) (tt {0}) capture capture' read →
      HasRead {T = Unit {0}} kind before after (tt {0}) (tt {0}) (f capture) (f capture') read
  read_over {read} told = grind (arith, IfErr-weaker)
