-- How a run ends over inputs that were opened.
use Rattle.std.specs.Prelude.{◌≡◌, ◌⊎◌, ℕ, Bool, true, List, [], Option, Some, None, IfSome, Err}
use Rattle.program.specs.Common.{CountsFault, FeedState, SinkState, IsInputFault, ReadsWhole, read_failed, Concludes, conclusion_of, Conclusion, Sums, Outcome, RunFault, Memory, AskedData, AnswersFor, ShowsAt, JudgesBySums, Feeds, limit_of, InputBytesData, data_of}
use Rattle.program.specs.Inputs.{SumNames, run_over, sum_names, sums_of}
use Rattle.program.specs.Invocation.{Asking}
use Rattle.program.specs.Opening.{Place, Places}
use Rattle.program.specs.declared.response.Summed.{Summed}

abbrev pub path_or_none : Option Place → List ℕ
path_or_none None = []
path_or_none (Some place) = place.path

-- the names by which a file of sums has the inputs of a question: their paths
abbrev pub names_of : Places → SumNames
names_of places = sum_names places.claim (path_or_none places.second) places.capture

-- What the engine promises of what it is asked, from these feeds on, and what its status shows.
pub record IsAnswered (asked : AskedData) (feeds : Feeds) (sink sink' err err' : SinkState)
    (conclusion : Conclusion) : Type 0 where
  pub after : Feeds
  pub answers : AnswersFor asked (run_over feeds sink) (run_over after sink')
      feeds.second after.second feeds.capture after.capture err err' conclusion
  pub shows : ShowsAt conclusion.code asked.question feeds.claim feeds.second feeds.capture

-- The file of sums was read whole, and its device didn't fail.
pub record IsRead (sums : FeedState) (text : List ℕ) : Type 0 where
  pub after : FeedState
  pub whole : IfSome sums.remaining (λ bytes. text ≡ bytes)
  pub unfailed : after.faults ≡ sums.faults

-- the same, if there is one
abbrev pub AreRead : Option FeedState → Option (List ℕ) → Type 0
AreRead None text = text ≡ None
AreRead (Some file) None = ⊥
AreRead (Some file) (Some text) = IsRead file text

-- It can't be read: it is too big, its device failed, which is counted, or memory was refused.
pub record IsUnreadable (file : FeedState) (fault : RunFault) : Type 0 where
  pub after : FeedState
  pub fault_is : IsInputFault Sums fault
  pub unread : IfSome file.remaining (λ bytes. ReadsWhole bytes (limit_of Sums) (Err fault))
  pub counts_fault : CountsFault (read_failed {X = Outcome} (Err fault)) file.faults after.faults

abbrev pub IsUnread : Option FeedState → RunFault → Type 0
IsUnread None fault = ⊥
IsUnread (Some file) fault = IsUnreadable file fault

-- The lines about the inputs, which are to be made, can't be: memory was refused.
pub record AreUnmade (makes_lines : Bool) (sums : Option FeedState) (fault : RunFault)
    : Type 0 where
  pub to_be_made : makes_lines ≡ true
  pub fault_is : fault ≡ Memory
  pub text : Option (List ℕ)
  pub read : AreRead sums text

-- why a run is given up before the question is asked
abbrev pub IsUnready : Bool → Option FeedState → RunFault → Type 0
IsUnready makes_lines sums fault = IsUnread sums fault ⊎ AreUnmade makes_lines sums fault

-- It is given up then: that is told as this says.
pub record IsGivenUp (makes_lines : Bool) (sums : Option FeedState) (summed : Option Summed)
    (IsTold : RunFault → Type 0) : Type 0 where
  pub fault : RunFault
  pub why : IsUnready makes_lines sums fault
  pub told : IsTold fault
  pub unsummed : summed ≡ None

-- The file of sums was read, if there is one, and what is asked on its text is answered as this
-- says.
pub record IsAsked (sums : Option FeedState) (IsAnsweredBy : Option (List ℕ) → Type 0)
    : Type 0 where
  pub text : Option (List ℕ)
  pub read : AreRead sums text
  pub answers : IsAnsweredBy text

-- What is done without a file of sums, or by the text of one: then what was read of it and of the
-- inputs is handed back.
abbrev pub IsDoneBy : (Without : Type 0) (By : List ℕ → InputBytesData → Type 0)
    → Option (List ℕ) → Option Summed → Type 0
IsDoneBy Without By None summed = Without × (summed ≡ None)
IsDoneBy Without By (Some text) None = ⊥
IsDoneBy Without By (Some text) (Some summed) =
    (summed.text.items ≡ text) × By text (data_of summed.read)

-- This fault is told, and nothing else is done.
pub record IsToldAlone (sink sink' err err' : SinkState) (conclusion : Conclusion)
    (fault : RunFault) : Type 0 where
  pub untouched : sink' ≡ sink
  pub concludes : Concludes (Err fault) err err'
  pub conclusion_is : conclusion ≡ conclusion_of (Err fault)

-- What was read of the inputs is judged by the text of a file of sums, which has them by these
-- names.
pub record IsJudgedBy (asked : AskedData) (names : SumNames) (feeds : Feeds) (text : List ℕ)
    (sink sink' err err' : SinkState) (read : InputBytesData) (conclusion : Conclusion)
    : Type 0 where
  pub after : Feeds
  pub judges : JudgesBySums asked (sums_of names text) (run_over feeds sink) (run_over after sink')
      err err' read conclusion

-- The answer to a question, by the text of a file of sums if there is one: then what was read is
-- judged.
abbrev pub AnswersBy : AskedData → SumNames → Feeds → Option (List ℕ) → SinkState → SinkState
    → SinkState → SinkState → Option Summed → Conclusion → Type 0
AnswersBy asked names feeds text sink sink' err err' summed conclusion =
    IsDoneBy (IsAnswered asked feeds sink sink' err err' conclusion)
    (λ t read. IsJudgedBy asked names feeds t sink sink' err err' read conclusion) text summed

-- the answer to a question, by a file of sums if there is one
abbrev pub Responds : Asking → SumNames → Feeds → Option FeedState → SinkState → SinkState
    → SinkState → SinkState → Option Summed → Conclusion → Type 0
Responds asking names feeds sums sink sink' err err' summed conclusion =
    IsAsked sums (λ text.
    AnswersBy (asking.by text) names feeds text sink sink' err err' summed conclusion)
    ⊎ IsGivenUp asking.makes_lines sums summed (IsToldAlone sink sink' err err' conclusion)
