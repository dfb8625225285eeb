-- The answer to a question whose text for a program goes into a draft.
use Rattle.std.specs.Prelude.{◌≡◌, ◌⊎◌, ◌==◌, ℕ, List, true, false, if◌then◌else◌, is_some, Option, Some, None, Result, Ok, Err, IfErr, IfOk, MatchResult}
use Rattle.program.specs.Common.{FeedState, SinkState, Full, no_feed, Concludes, conclusion_of, Conclusion, Outcome, RunFault, Memory, Write, AskedData, RunsFor, RunsTwice, AreSummed, CountFaults, Feeds, IsUnjudgedFor, TakeAtMost, feed_of, feeds, InputBytesData}
use Rattle.program.specs.Files.{DraftsState, IsEmpty, IsHindered, IsPlaced, part_of, with_draft, without_draft}
use Rattle.program.specs.Inputs.{SumNames, run_over, sums_of}
use Rattle.program.specs.Invocation.{Asking, is_human}
use Rattle.program.specs.Opening.{AreOpened, Places}
use Rattle.program.specs.Response.{IsAsked, IsDoneBy, IsGivenUp, names_of}
use Rattle.program.specs.World.{World}
use Rattle.program.specs.declared.drafted.Written.{Written}
use Rattle.program.specs.declared.hindrance.Hindrance.{Hindrance}
use Rattle.program.specs.declared.response.Summed.{Summed}

-- The text goes into the draft as it would go to the output, which is as it was.
pub record IsDraftedAlone (asked : AskedData) (feeds : Feeds) (draft draft' out out' : SinkState)
    (answer : Result Outcome RunFault) : Type 0 where
  pub after : Feeds
  pub runs : RunsFor asked (run_over feeds draft) (run_over after draft')
      feeds.second after.second feeds.capture after.capture answer
  pub shows : IfOk answer (asked.question.Shows feeds.claim feeds.second feeds.capture)
  pub untold : out' ≡ out

-- The text for a program goes there, and what a person is told of the same finding to the output.
pub record IsDraftedAndTold (asked : AskedData) (feeds : Feeds)
    (draft draft' out out' : SinkState) (answer : Result Outcome RunFault) : Type 0 where
  pub after : Feeds
  pub runs : RunsTwice asked (run_over feeds draft) (run_over after draft')
      feeds.second after.second feeds.capture after.capture out out' answer

-- the answer to a question, for a program or for a person
pub record IsDrafted (asked : AskedData) (feeds : Feeds) (draft draft' out out' : SinkState)
    (answer : Result Outcome RunFault) : Type 0 where
  pub alone : is_human asked.style ≡ false →
      IsDraftedAlone asked feeds draft draft' out out' answer
  pub told : is_human asked.style ≡ true →
      IsDraftedAndTold asked feeds draft draft' out out' answer

-- what hinders a file from being written at this fault of a run, whose draft has failed so often:
-- the draft can't be written whole
abbrev pub hindrance_of : RunFault → ℕ → Option Hindrance
hindrance_of (Write sent) faults =
    if faults == 0 then None else Some (record { obstacle = Full; error = None })
hindrance_of fault faults = None

-- something hinders a file from being written, and the run ends with that
abbrev pub TellsHindrance : Written → Type 0
TellsHindrance written = (written.answer ≡ Err (Write 0)) × (is_some written.hindrance ≡ true)

-- How a draft ends with this answer in it. With an outcome it takes its place, which is told, or
-- something hinders it. With a fault it is removed, and the fault is told.
abbrev pub IsEnded : Result Outcome RunFault → List ℕ → SinkState → DraftsState → DraftsState
    → Written → Type 0
IsEnded (Ok outcome) path draft before after written =
    (IsPlaced path draft before after
    × (written.answer ≡ Ok outcome) × (written.hindrance ≡ None))
    ⊎ (IsHindered before after × TellsHindrance written)
IsEnded (Err fault) path draft before after written = (after ≡ without_draft before)
    × (written.answer ≡ Err fault) × (written.hindrance ≡ hindrance_of fault draft.faults)

-- One draft was made, beside the file's path, and the question answered into it.
pub record HasDraft (asked : AskedData) (feeds : Feeds) (path : List ℕ) (out out' : SinkState)
    (before after : DraftsState) (written : Written) : Type 0 where
  pub draft : SinkState
  pub draft_after : SinkState
  pub drafted : Result Outcome RunFault
  pub is_empty : IsEmpty draft
  pub is_drafted : IsDrafted asked feeds draft draft_after out out' drafted
  pub is_ended : IsEnded drafted path draft_after (with_draft (part_of path) before) after written

-- No draft was made, for want of memory or since something hinders it. Nothing is written.
pub record HasNoDraft (out out' : SinkState) (before after : DraftsState) (written : Written)
    : Type 0 where
  pub why : ((after ≡ before) × (written.answer ≡ Err Memory) × (written.hindrance ≡ None))
      ⊎ (IsHindered before after × TellsHindrance written)
  pub untouched : out' ≡ out

-- feeds of what was read of a claim and a capture
abbrev pub feeds_on : InputBytesData → Feeds
feeds_on read = feeds (feed_of read.claim) no_feed (feed_of read.capture)

-- the answer to a question in a draft of the file of this path
abbrev pub DraftsOn : AskedData → Feeds → List ℕ → SinkState → SinkState → DraftsState
    → DraftsState → Written → Type 0
DraftsOn asked feeds path out out' before after written =
    HasDraft asked feeds path out out' before after written
    ⊎ HasNoDraft out out' before after written

-- No draft was made: the run ends with this fault, and nothing is written.
pub record IsUndrafted (out out' : SinkState) (before after : DraftsState) (written : Written)
    (fault : RunFault) : Type 0 where
  pub unmade : after ≡ before
  pub untouched : out' ≡ out
  pub fault_is : written ≡ record { answer = Err fault; hindrance = None }

-- What was read of the inputs is held to the text of a file of sums, which has them by these names.
-- If it has its sums the question is answered on it, in a draft; if not, no draft was made.
pub record IsDraftedBy (asked : AskedData) (names : SumNames) (feeds : Feeds) (text : List ℕ)
    (path : List ℕ) (out out' : SinkState) (before after : DraftsState) (read : InputBytesData)
    (written : Written) : Type 0 where
  pub ended : Feeds
  pub held : Result (Unit {0}) RunFault
  pub summed : IfOk held (λ _. AreSummed asked.second (sums_of names text) feeds read)
  pub unjudged : IfErr held (IsUnjudgedFor asked.second (sums_of names text) feeds ended read)
  pub counts_faults : CountFaults held feeds ended
  pub at_most : TakeAtMost asked.second feeds ended
  pub drafts : MatchResult held
      (λ _. DraftsOn asked (feeds_on read) path out out' before after written)
      (IsUndrafted out out' before after written)

-- The answer to a question in a draft, by the text of a file of sums if there is one.
abbrev pub DraftsBy : AskedData → SumNames → Feeds → Option (List ℕ) → List ℕ → SinkState
    → SinkState → DraftsState → DraftsState → Option Summed → Written → Type 0
DraftsBy asked names feeds text path out out' before after summed written =
    IsDoneBy (DraftsOn asked feeds path out out' before after written)
    (λ t read. IsDraftedBy asked names feeds t path out out' before after read written) text summed

-- the answer to a question in a draft, by a file of sums if there is one
abbrev pub Drafts : Asking → SumNames → Feeds → Option FeedState → List ℕ → SinkState → SinkState
    → DraftsState → DraftsState → Option Summed → Written → Type 0
Drafts asking names feeds sums path out out' before after summed written =
    IsAsked sums (λ text.
    DraftsBy (asking.by text) names feeds text path out out' before after summed written)
    ⊎ IsGivenUp asking.makes_lines sums summed (IsUndrafted out out' before after written)

-- All inputs were opened, and the question was answered in a draft, or it couldn't be. If they are
-- held to sums, what was read of them is handed back.
pub record IsDraftedOver (asking : Asking) (places : Places) (path : List ℕ)
    (before after : World) (hindrance : Option Hindrance) (summed : Option Summed)
    (conclusion : Conclusion) : Type 0 where
  pub feeds : Feeds
  pub sums : Option FeedState
  pub are_opened : AreOpened before.files places after.files.opened feeds sums
  pub written : Written
  pub drafts : Drafts asking (names_of places) feeds sums path before.out after.out
      before.files.drafts after.files.drafts summed written
  pub concludes : Concludes written.answer before.err after.err
  pub conclusion_is : conclusion ≡ conclusion_of written.answer
  pub hindrance_is : hindrance ≡ written.hindrance
