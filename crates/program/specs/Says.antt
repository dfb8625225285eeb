-- What a command line does: what is opened, what is written, and how that is reported.
use Rattle.std.specs.Prelude.{◌≡◌, Some, None, codes, string_bytes}
use Rattle.program.specs.Common.{whole_text, bare_state, Answers, refused_conclusion, Yes, IsDelivered}
use Rattle.program.specs.Invocation.{judged_of, judged_places, listed_name, places_of, requested, second_of}
use Rattle.program.specs.Order.{Orders}
use Rattle.program.specs.Run.{AnswersOver, AnswersTo, IsBare, IsUntouched, Lists}
use Rattle.program.specs.World.{World}
use Rattle.program.specs.declared.invocation.Invocation.{Invocation}
use Rattle.program.specs.declared.invocation.Invocation.TheVariants as calls
use Rattle.program.specs.declared.run.Response.{Response}

-- the response to a command line
abbrev pub Says : Invocation → World → World → Response → Type 0
Says (calls.List listed) before after response =
    Lists (listed_name listed) before after response.conclusion × IsBare response
Says (calls.Ask request paths) before after response = AnswersTo paths.output
    (requested request paths) (places_of paths) before after
    response.hindrance response.summed response.conclusion
Says (calls.Judge judgement paths) before after response =
    AnswersOver (judged_of judgement paths)
    (judged_places (second_of judgement) paths) before after response.summed response.conclusion
    × (response.hindrance ≡ None)
Says (calls.Order first second) before after response = Orders first second before after response
Says (calls.Show text) before after response = (after.files ≡ before.files)
    × Answers (Some (whole_text (string_bytes text) Yes))
    (bare_state before.out) (bare_state after.out) before.err after.err response.conclusion
    × IsBare response
Says (calls.Refuse text) before after response = IsUntouched before after
    × IsDelivered (string_bytes text) before.err after.err
    × (response.conclusion ≡ refused_conclusion) × IsBare response
Says (calls.RefuseTime shown) before after response = IsUntouched before after
    × IsDelivered (codes "ntpaudit: time\n") before.err after.err
    × (response.conclusion ≡ refused_conclusion) × IsBare response
