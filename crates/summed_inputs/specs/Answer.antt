-- What is said of a run whose inputs are held to their sums, with no premise that their bytes are
-- known beforehand.
use Rattle.std.specs.Prelude.{◌≡◌, ◌⊎◌, ◌≤◌, ℕ, false, List, Some, Ok, Err}
use Rattle.summed_inputs.specs.Common.{Keeps, SinkState, RunState, run_state, Answers, Concludes, conclusion_of, Conclusion, Outcome, RunFault, ShowsFinding, report_of_bytes, ShowsAt, AskedData, Finding, QuestionData, SecondKind}
use Rattle.summed_inputs.specs.Holding.{AreSummed, CountFaults, Feeds, IsUnjudgedFor, TakeAtMost, feed_of, feeds}
use Rattle.summed_inputs.specs.InputBytes.{InputBytesData}
use Rattle.summed_inputs.specs.Sums.{SumsData}

-- the feeds of a run
abbrev pub feeds_of : RunState → Feeds
feeds_of run = feeds run.claim run.second run.capture

-- no device of an input has failed between these moments
abbrev pub HaveNotFailed : Feeds → Feeds → Type 0
HaveNotFailed before after = CountFaults {A = Unit {0}} (Ok tt) before after

-- what an exit status shows of these bytes of claim, second input and capture
abbrev pub ShowsOfBytes : ℕ → QuestionData → List ℕ → List ℕ → List ℕ → Type 0
ShowsOfBytes status question claim second capture =
    ShowsAt status question (feed_of claim) (feed_of second) (feed_of capture)

-- The text that is written, the fault that is reported and the exit status are those that the
-- definitions have for these bytes of claim, second input and capture; of `settle` and `envelope`
-- those for a finding, which shows what it says. The bytes are in memory, so the fault isn't that
-- of a device of theirs. The status shows what it shows of them.
pub record IsAnsweredFor (asked : AskedData) (claim second capture : List ℕ)
    (sink sink' err err' : SinkState) (conclusion : Conclusion) : Type 0 where
  pub ended : RunState
  pub sink_is : ended.sink ≡ sink'
  pub unfailed : HaveNotFailed (feeds (feed_of claim) (feed_of second) (feed_of capture))
      (feeds_of ended)
  pub finding : Finding
  pub found : ShowsFinding finding (feed_of claim) (feed_of capture)
  pub answers : Answers
      (report_of_bytes asked finding (Some claim) (Some second) (Some capture))
      (run_state (feed_of claim) (feed_of second) (feed_of capture) sink) ended err err' conclusion
  pub shows : ShowsOfBytes conclusion.code asked.question claim second capture

-- What was read of claim, second input and capture has the sums that are given for it, and is
-- answered for. No device of an input failed.
pub record IsJudged (asked : AskedData) (sums : SumsData) (before after : RunState)
    (err err' : SinkState) (read : InputBytesData) (conclusion : Conclusion) : Type 0 where
  pub summed : AreSummed asked.second sums (feeds_of before) read
  pub answered : IsAnsweredFor asked read.claim read.second read.capture before.sink after.sink
      err err' conclusion
  pub unfailed : HaveNotFailed (feeds_of before) (feeds_of after)

-- A run is given up before anything is judged: the fault is reported, and nothing is written.
pub record IsUnjudged (kind : SecondKind) (sums : SumsData) (before after : RunState)
    (err err' : SinkState) (read : InputBytesData) (conclusion : Conclusion) : Type 0 where
  pub fault : RunFault
  pub fault_is : IsUnjudgedFor kind sums (feeds_of before) (feeds_of after) read fault
  pub unwritten : Keeps before.sink.contents after.sink.contents
  pub closed : after.sink.is_open ≡ false
  pub concludes : Concludes (Err fault) err err'
  pub conclusion_is : conclusion ≡ conclusion_of (Err fault)
  pub counts_faults : CountFaults {A = Outcome} (Err fault) (feeds_of before) (feeds_of after)

-- What a run promises that is held to sums and hands back what it read: that is judged, or the run
-- is given up; and it's judged at status 0 and 1.
pub record JudgesBySums (asked : AskedData) (sums : SumsData) (before after : RunState)
    (err err' : SinkState) (read : InputBytesData) (conclusion : Conclusion) : Type 0 where
  pub either : IsJudged asked sums before after err err' read conclusion
      ⊎ IsUnjudged asked.second sums before after err err' read conclusion
  pub judged : conclusion.code ≤ 1 → IsJudged asked sums before after err err' read conclusion
  pub closed : err'.is_open ≡ false
  pub at_most : TakeAtMost asked.second (feeds_of before) (feeds_of after)
