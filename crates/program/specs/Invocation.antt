-- What a command line asks of files.
use Rattle.std.specs.Prelude.{◌≡◌, ℕ, Bool, true, false, List, [], Option, Some, None, codes, option_map, if◌then◌else◌, string_bytes, unwrap_or}
use Rattle.program.specs.Common.{Style, Plain, Input, Certificate, Refutation, Times, check, AskedData, asked_of, readings, readings_by_covers, refute, question_of, certificate_second, no_second, refutation_second, times_second, settle, Request}
use Rattle.audit.specs.declared.question.Request.TheVariants as requests
use Rattle.program.specs.About.{about_of, inputs_of}
use Rattle.program.specs.Opening.{Place, Places, place}
use Rattle.program.specs.declared.invocation.Invocation.{Invocation}
use Rattle.program.specs.declared.invocation.Invocation.TheVariants as calls
use Rattle.program.specs.declared.invocation.JudgedPaths.{JudgedPaths}
use Rattle.program.specs.declared.invocation.Judgement.{Judgement}
use Rattle.program.specs.declared.invocation.Judgement.TheVariants as judgements
use Rattle.program.specs.declared.invocation.Listed.{Listed}
use Rattle.program.specs.declared.invocation.Paths.{Paths}

-- whether a style is for a person
abbrev pub is_human : Style → Bool
is_human Plain = false
is_human style = true

-- which input the second one of a judgement is
abbrev pub second_of : Judgement → Input
second_of judgements.Check = Certificate
second_of (judgements.Refute drift) = Refutation
second_of (judgements.Readings covers) = Times

-- the operand that names a listing's capture
abbrev pub listed_name : Listed → List ℕ
listed_name listed = unwrap_or (option_map string_bytes listed.path) (codes "-")

-- by which paths the inputs of a request are opened, and those of a judgement
abbrev pub places_of : Paths → Places
places_of paths = record {
  claim = string_bytes paths.claim;
  second = None;
  capture = string_bytes paths.capture;
  sums = option_map string_bytes paths.sums;
}

abbrev pub judged_places : Input → JudgedPaths → Places
judged_places which paths = record (places_of paths.evidence) {
  second = Some (place which (string_bytes paths.second));
}

-- What an engine is asked, on the text of the file of sums to which the inputs are held, if there
-- is one; and whether lines about them are made first.
pub record Asking : Type 1 where
  pub by : Option (List ℕ) → AskedData
  pub makes_lines : Bool

-- a question in which nothing is told about the inputs
abbrev pub unnamed : AskedData → Asking
unnamed asked = record { by = λ sums. asked; makes_lines = false }

-- what is told about them: to a person the lines, to a program nothing
abbrev pub told_of : Style → List Place → Option (List ℕ) → List ℕ
told_of style inputs sums = if is_human style then about_of inputs sums else []

-- a question in which that is told
abbrev pub named : (List ℕ → AskedData) → Style → Places → Asking
named asked style places = record {
  by = λ sums. asked (told_of style (inputs_of places) sums);
  makes_lines = is_human style;
}

-- what is asked by a request
abbrev pub settling : Style → List ℕ → AskedData
settling style about = asked_of (settle about) no_second style

abbrev pub requested : Request → Paths → Asking
requested requests.Settle paths = named (settling paths.style) paths.style (places_of paths)
requested request paths = unnamed (asked_of (question_of request) no_second paths.style)

-- what is asked by a judgement
abbrev pub judging : Judgement → Style → List ℕ → AskedData
judging judgements.Check style about = asked_of (check about) certificate_second style
judging (judgements.Refute drift) style about =
    asked_of (refute drift about) refutation_second style
judging (judgements.Readings false) style about = asked_of readings times_second style
judging (judgements.Readings true) style about = asked_of readings_by_covers times_second style

abbrev pub judged_of : Judgement → JudgedPaths → Asking
judged_of judgement paths = named (judging judgement paths.evidence.style) paths.evidence.style
    (judged_places (second_of judgement) paths)

-- a refusal, with this text
abbrev pub IsRefusedBy : List ℕ → Invocation → Type 0
IsRefusedBy text (calls.Refuse told) = string_bytes told ≡ text
IsRefusedBy text invocation = ⊥
