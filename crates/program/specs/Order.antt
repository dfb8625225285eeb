-- What `order` does over the files of two clocks: when the first showed its reading is read of its
-- own, and then the second is asked.
use Rattle.std.specs.Prelude.{◌≡◌, ◌⊎◌, ◌+◌, ℕ, List, [], ◌∷◌, Result, Ok, Err, IfErr, IfOk, IfSome, string_bytes}
use Rattle.audit.specs.declared.question.Request.TheVariants as requests
use Rattle.audit.specs.declared.question.reading.AtReading.{AtReading}
use Rattle.program.specs.Common.{FeedState, SinkState, GiveWhen, HasRead, When, Input, Capture, Claim, RunFault, Concludes, IsFromOutside, IsUnwritten, conclusion_of, inputs_read, no_feed, no_second, run_state, ticks_asked}
use Rattle.program.specs.Files.{FilesState, IsFeedOf}
use Rattle.program.specs.Invocation.{places_of, requested}
use Rattle.program.specs.Opening.{IsFirstUnopened, Place, place}
use Rattle.program.specs.Run.{AnswersTo, IsBare}
use Rattle.program.specs.World.{World, world}
use Rattle.program.specs.declared.asked.Asked.TheVariants as asks
use Rattle.program.specs.declared.invocation.Shown.{Shown}
use Rattle.program.specs.declared.run.Response.{Response}

-- what is opened of a clock, in this order
abbrev pub shown_order : Shown → List Place
shown_order shown = place Claim (string_bytes shown.paths.claim)
    ∷ place Capture (string_bytes shown.paths.capture) ∷ []

-- One of them can't be opened.
pub record IsUnseen (shown : Shown) (before after : FilesState) (read : Result When RunFault)
    : Type 0 where
  pub fault : RunFault
  pub read_is : read ≡ Err fault
  pub fault_is : IsFirstUnopened before.standing (shown_order shown) before.opened after.opened
      fault

-- From these feeds claim and capture are read: so it is known when the clock showed a reading, or
-- why that can't be said.
pub record IsReadBy (reading : AtReading) (claim capture : FeedState) (read : Result When RunFault)
    : Type 0 where
  pub claim_after : FeedState
  pub capture_after : FeedState
  pub has_read : (sink sink' : SinkState) → HasRead no_second
      (run_state claim no_feed capture sink) (run_state claim_after no_feed capture_after sink')
      (tt {0}) (tt {0}) capture capture_after read
  pub when : IfOk read (λ when. GiveWhen (ticks_asked reading.begin reading.end) when
      claim capture)
  pub refused : IfErr read (λ fault. IfSome
      (inputs_read no_second claim.remaining no_feed.remaining capture.remaining)
      (λ known. IsFromOutside fault ⊎ (known ≡ Err fault)))
  pub unwritten : IfErr read (λ fault. IsUnwritten (Err fault))

-- Both were opened and read.
pub record IsSeen (shown : Shown) (before after : FilesState) (read : Result When RunFault)
    : Type 0 where
  pub claim : FeedState
  pub capture : FeedState
  pub claim_is : IsFeedOf (before.standing (string_bytes shown.paths.claim)) claim
  pub capture_is : IsFeedOf (before.standing (string_bytes shown.paths.capture)) capture
  pub once : after.opened ≡ before.opened + 2
  pub is_read : IsReadBy shown.reading claim capture read

-- when a clock showed its reading, or why that can't be said; no draft is made
pub record TellsWhen (shown : Shown) (before after : FilesState) (read : Result When RunFault)
    : Type 0 where
  pub standing : after.standing ≡ before.standing
  pub undrafted : after.drafts ≡ before.drafts
  pub tells : IsUnseen shown before after read ⊎ IsSeen shown before after read

-- It can't be said when the first clock showed its reading: that is told, and nothing else is done.
pub record IsOrderUnknown (first : Shown) (before after : World) (response : Response)
    : Type 0 where
  pub fault : RunFault
  pub tells : TellsWhen first before.files after.files (Err fault)
  pub untouched : after.out ≡ before.out
  pub concludes : Concludes (Err fault) before.err after.err
  pub conclusion_is : response.conclusion ≡ conclusion_of (Err fault)
  pub bare : IsBare response
  pub asked_is : response.asked ≡ asks.Question first.paths

-- It is known, and the second clock is asked which reading was first.
pub record IsOrderAsked (first second : Shown) (before after : World) (response : Response)
    : Type 0 where
  pub between : FilesState
  pub when : When
  pub tells : TellsWhen first before.files between (Ok when)
  pub answers : AnswersTo second.paths.output
      (requested (requests.OrderAfter (record { first = when; second = second.reading }))
      second.paths)
      (places_of second.paths) (world between before.out before.err) after
      response.hindrance response.summed response.conclusion
  pub asked_is : response.asked ≡ asks.Question second.paths

-- what `order` does over the files of two clocks
abbrev pub Orders : Shown → Shown → World → World → Response → Type 0
Orders first second before after response =
    IsOrderUnknown first before after response ⊎ IsOrderAsked first second before after response
