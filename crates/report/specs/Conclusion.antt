-- What a command comes to, and how its answer is reported: a fault by its line, and an outcome by
-- nothing.
use Rattle.std.specs.Prelude.{◌≡◌, ℕ, List, [], ◌++◌, codes, Option, None, Result, Ok, Err}
use Rattle.std.specs.Result.{result_err}
use Rattle.byte_stream.specs.State.{SinkState}
use Rattle.report.specs.declared.conclusion.Conclusion.{Conclusion}
use Rattle.report.specs.declared.fault.Outcome.{Outcome}
use Rattle.report.specs.declared.fault.RunFault.{RunFault}
use Rattle.report.specs.Delivery.{IsDelivered}
use Rattle.report.specs.ExitStatus.{refused_status, status_of}
use Rattle.report.specs.FaultText.{fault_text}
use Rattle.report.specs.Run.{RunState}
use Rattle.report.specs.Reports.{Report, Reports}

-- what a command comes to with this answer: its exit status, and the fault that is reported
abbrev pub conclusion_of : Result Outcome RunFault → Conclusion
conclusion_of answer = record { code = status_of answer; fault = result_err answer }

-- what a refused command line comes to
abbrev pub refused_conclusion : Conclusion
refused_conclusion = record { code = refused_status; fault = None }

-- the line that reports an answer, with its line feed: none for an outcome
abbrev pub conclusion_text : Result Outcome RunFault → List ℕ
conclusion_text (Ok outcome) = []
conclusion_text (Err fault) = fault_text fault ++ codes "\n"

-- The answer was reported on the sink: it has got the whole line and was finished, or it failed,
-- and has got a first part of it. For want of memory no line is left out.
abbrev pub Concludes : Result Outcome RunFault → SinkState → SinkState → Type 0
Concludes answer before after = IsDelivered (conclusion_text answer) before after

-- What a caller of a whole command sees: there is one answer for which a promise holds; the line of
-- its fault stands in the sink for errors, and its status and its fault in the result.
pub record IsConcluded (Promise : Result Outcome RunFault → Type 0) (err err' : SinkState)
    (conclusion : Conclusion) : Type 0 where
  pub answer : Result Outcome RunFault
  pub promise : Promise answer
  pub concludes : Concludes answer err err'
  pub conclusion_is : conclusion ≡ conclusion_of answer

-- the same of a command that promises this report in the output's sink
abbrev pub Answers :
    Option Report → RunState → RunState → SinkState → SinkState → Conclusion → Type 0
Answers report before after err err' conclusion =
    IsConcluded (Reports report before after) err err' conclusion
