-- What a question does over files: what is opened by which path, what is written, and how that is
-- reported.
use Rattle.std.specs.Prelude.{◌≡◌, ◌⊎◌, ◌+◌, ℕ, List, [], ◌∷◌, Option, Some, None, String, string_bytes}
use Rattle.program.specs.Common.{option_map, Global, FeedState, list_report, capture_state, Answers, Conclusion, Capture, Feeds}
use Rattle.program.specs.Drafted.{IsDraftedOver}
use Rattle.program.specs.Files.{IsFeedOf}
use Rattle.program.specs.Invocation.{Asking}
use Rattle.program.specs.Opening.{AreOpened, Places, order_of, place}
use Rattle.program.specs.Response.{Responds, names_of}
use Rattle.program.specs.World.{IsUnopened, World}
use Rattle.program.specs.declared.hindrance.Hindrance.{Hindrance}
use Rattle.program.specs.declared.response.Summed.{Summed}
use Rattle.program.specs.declared.run.Response.{Response}

-- The capture was opened, and listed.
pub record IsListed (path : List ℕ) (before after : World) (conclusion : Conclusion) : Type 0 where
  pub capture : FeedState
  pub capture_after : FeedState
  pub capture_is : IsFeedOf (before.files.standing path) capture
  pub once : after.files.opened ≡ before.files.opened + 1
  pub undrafted : after.files.drafts ≡ before.files.drafts
  pub answers : Answers (option_map list_report capture.remaining)
      (capture_state capture before.out) (capture_state capture_after after.out)
      before.err after.err conclusion

-- how a listing ends
abbrev pub Lists : List ℕ → World → World → Conclusion → Type 0
Lists path before after conclusion =
    IsUnopened (place Capture path ∷ []) before after conclusion
    ⊎ IsListed path before after conclusion

-- All inputs were opened, and the question was answered on them. If they are held to sums, what
-- was read of them is handed back.
pub record IsAnsweredOver (asking : Asking) (places : Places) (before after : World)
    (summed : Option Summed) (conclusion : Conclusion) : Type 0 where
  pub feeds : Feeds
  pub sums : Option FeedState
  pub are_opened : AreOpened before.files places after.files.opened feeds sums
  pub undrafted : after.files.drafts ≡ before.files.drafts
  pub responds : Responds asking (names_of places) feeds sums before.out after.out
      before.err after.err summed conclusion

-- the answer to a judgement's question, on the output
abbrev pub AnswersOver : Asking → Places → World → World → Option Summed → Conclusion → Type 0
AnswersOver asking places before after summed conclusion =
    (IsUnopened (order_of places) before after conclusion × (summed ≡ None))
    ⊎ IsAnsweredOver asking places before after summed conclusion

-- All inputs were opened, and the question was answered on the output, or in a file.
abbrev pub IsAnsweredTo : Option (String Global) → Asking → Places → World → World
    → Option Hindrance → Option Summed → Conclusion → Type 0
IsAnsweredTo None asking places before after hindrance summed conclusion =
    IsAnsweredOver asking places before after summed conclusion × (hindrance ≡ None)
IsAnsweredTo (Some file) asking places before after hindrance summed conclusion =
    IsDraftedOver asking places (string_bytes file) before after hindrance summed conclusion

-- the answer to a question whose text for a program may go into a file
abbrev pub AnswersTo : Option (String Global) → Asking → Places → World → World
    → Option Hindrance → Option Summed → Conclusion → Type 0
AnswersTo file asking places before after hindrance summed conclusion =
    (IsUnopened (order_of places) before after conclusion × (hindrance ≡ None) × (summed ≡ None))
    ⊎ IsAnsweredTo file asking places before after hindrance summed conclusion

-- No file was opened or put into its place, and nothing written on the output.
pub record IsUntouched (before after : World) : Type 0 where
  pub unopened : after.files ≡ before.files
  pub unwritten : after.out ≡ before.out

-- Nothing was read by sums, and no file was to be written.
pub record IsBare (response : Response) : Type 0 where
  pub unsummed : response.summed ≡ None
  pub unhindered : response.hindrance ≡ None
