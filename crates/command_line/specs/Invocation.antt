-- What the words of a command line call for.
use Rattle.std.specs.Prelude.{◌≡◌, ◌≤◌, ◌⊎◌, ◌&&◌, ◌||◌, ⊤, ℕ, Bool, true, false, List, [], Option, Some, None, String, IfSome, IsSome, is_some, option_map, unwrap_or, codes, string_bytes}
use Rattle.command_line.specs.Common.{bytes_eq, digits_value, without_leading_plus, IsNumeral, Global, AtReading, ReadingData, reading_of, time_of, Row, Text, first_of, found_of, one_of, rows_of, ArgMatches, Style, Human, Plain, Request, IsRefusedBy, is_human, Invocation, JudgedPaths, Judgement, Listed, Paths, Shown}
use Rattle.audit.specs.declared.question.Request.TheVariants as requests
use Rattle.program.specs.declared.invocation.Invocation.TheVariants as calls
use Rattle.program.specs.declared.invocation.Judgement.TheVariants as judgements

-- the rows that clap has found for a command
abbrev pub found_rows : ArgMatches → List Row
found_rows words = rows_of (found_of words)

-- the text of an operand among the rows that were found, empty if it was left out
abbrev pub operand : Text → List Row → Text
operand name rows = unwrap_or (first_of name rows) []

-- whether an option without a value was given
pub record IsFlag (name : Text) (rows : List Row) (given : Bool) : Type 0 where
  pub yes : one_of name rows ≡ Some (codes "true") → given ≡ true
  pub no : one_of name rows ≡ Some (codes "false") → given ≡ false
  pub none : one_of name rows ≡ None → given ≡ false

-- the style of lines for a person, or for a program
abbrev pub style_of : Bool → Style
style_of true = Human
style_of false = Plain

-- the number that is given for the length of a piece, in seconds
abbrev pub step_given : List Row → Option ℕ
step_given rows =
    option_map (λ text. digits_value 10 (without_leading_plus text)) (one_of (codes "step") rows)

-- The capture and the style are those of the words.
pub record IsListed (rows : List Row) (listed : Listed) : Type 0 where
  pub human : IsFlag (codes "human") rows (is_human listed.style)
  pub style_is : listed.style ≡ style_of (is_human listed.style)
  pub path : option_map string_bytes listed.path ≡ first_of (codes "CAPTURE") rows

-- A person is told of the operand of this name, a time.
pub record IsShownTime (name : Text) (rows : List Row) (shown : Option (String Global))
    : Type 0 where
  pub human : IsFlag (codes "human") rows (is_some shown)
  pub time : IfSome shown (λ text. string_bytes text ≡ operand name rows)

-- The claim and the capture are the operands of these names, and the file of sums, the output and
-- the style are those of the words.
pub record AreNamedBy (claim_name capture_name : Text) (rows : List Row) (paths : Paths)
    : Type 0 where
  pub human : IsFlag (codes "human") rows (is_human paths.style)
  pub style_is : paths.style ≡ style_of (is_human paths.style)
  pub claim : string_bytes paths.claim ≡ operand claim_name rows
  pub capture : string_bytes paths.capture ≡ operand capture_name rows
  pub sums : option_map string_bytes paths.sums ≡ first_of (codes "sums") rows
  pub output : option_map string_bytes paths.output ≡ first_of (codes "output") rows

abbrev pub AreNamed : List Row → Paths → Type 0
AreNamed = AreNamedBy (codes "CLAIM") (codes "CAPTURE")

-- The same of a command with a second input, an operand of this name.
pub record AreJudgedNamed (second : Text) (rows : List Row) (paths : JudgedPaths) : Type 0 where
  pub evidence : AreNamed rows paths.evidence
  pub second_is : string_bytes paths.second ≡ operand second rows

-- the Unix second of the operand TIME, if it is written as a claim's times are
abbrev pub time_given : List Row → Option ℕ
time_given rows = time_of (operand (codes "TIME") rows)

-- the ticks of a reading
abbrev pub ticks_of : ReadingData → AtReading
ticks_of r = record { begin = r.begin; end = r.end }

-- those of the operand of this name, if it is written as a reading
abbrev pub ticks_given : Text → List Row → Option AtReading
ticks_given name rows = option_map ticks_of (reading_of (operand name rows))

-- whether two operands have the same text
abbrev pub are_same : Text → Text → List Row → Bool
are_same name name' rows = bytes_eq (operand name rows) (operand name' rows)

-- whether both readings are of one clock: its claim and its capture are given twice
abbrev pub is_one_clock : List Row → Bool
is_one_clock rows = are_same (codes "CLAIM") (codes "OTHER_CLAIM") rows
    && are_same (codes "CAPTURE") (codes "OTHER_CAPTURE") rows

-- The two readings are those of the words.
pub record AreReadings (rows : List Row) (first second : AtReading) : Type 0 where
  pub first_is : ticks_given (codes "TIME") rows ≡ Some first
  pub second_is : ticks_given (codes "OTHER_TIME") rows ≡ Some second

-- neither of two is there, or both are
abbrev pub AreNotOne : Option Text → Option Text → Type 0
AreNotOne None None = ⊤
AreNotOne (Some first) (Some second) = ⊤
AreNotOne first second = ⊥

-- a moment and a file of readings, or neither, are given
abbrev pub HasNoTime : List Row → Type 0
HasNoTime rows = AreNotOne (first_of (codes "TIME") rows) (first_of (codes "times") rows)

abbrev pub no_time_text : Text
no_time_text = codes "error: at takes a TIME, or --times FILE\n"

-- whether a command has this name
abbrev pub is_command : Text → Bool
is_command name = bytes_eq name (codes "list") || bytes_eq name (codes "samples")
    || bytes_eq name (codes "at") || bytes_eq name (codes "order") || bytes_eq name (codes "settle")
    || bytes_eq name (codes "check") || bytes_eq name (codes "find")
    || bytes_eq name (codes "refute") || bytes_eq name (codes "envelope")

-- no number from 1 to 86400 is given for the length of a piece
abbrev pub HasNoStep : List Row → Type 0
HasNoStep rows = IfSome (one_of (codes "step") rows) (λ text.
    IsNumeral 10 (without_leading_plus text) → 1 ≤ digits_value 10 (without_leading_plus text)
    → digits_value 10 (without_leading_plus text) ≤ 86400 → ⊥)

-- A command that cuts pieces is refused if it's given no length for them, and one that asks about
-- moments if it has none, or two kinds; and so is a name that is no command's.
abbrev pub IsRefusable : Text → List Row → Text → Type 0
IsRefusable name rows told =
    ((is_command name ≡ false) × (told ≡ codes "no command\n"))
    ⊎ (((name ≡ codes "find") ⊎ (name ≡ codes "envelope")) × HasNoStep rows
    × (told ≡ codes "no step\n"))
    ⊎ ((name ≡ codes "at") × HasNoTime rows × (told ≡ no_time_text))

-- what a command without a second input asks
abbrev pub IsRequest : Text → List Row → Request → Type 0
IsRequest name rows requests.Samples = name ≡ codes "samples"
IsRequest name rows (requests.At at) = (name ≡ codes "at")
    × (first_of (codes "times") rows ≡ None) × IsFlag (codes "covers") rows false
    × (time_given rows ≡ Some at.unix_second)
IsRequest name rows (requests.Reading reading) =
    (name ≡ codes "at") × (first_of (codes "times") rows ≡ None)
    × IsFlag (codes "covers") rows false × (time_given rows ≡ None)
    × (ticks_given (codes "TIME") rows ≡ Some reading)
IsRequest name rows (requests.ByCovers asked) =
    (name ≡ codes "at") × (first_of (codes "times") rows ≡ None)
    × IsFlag (codes "covers") rows true
    × (ticks_given (codes "TIME") rows ≡ Some asked.reading)
IsRequest name rows requests.Settle = name ≡ codes "settle"
IsRequest name rows (requests.Find find) =
    (name ≡ codes "find") × IsFlag (codes "refutation") rows false
    × (step_given rows ≡ Some find.step.seconds)
IsRequest name rows requests.FindRefutation = (name ≡ codes "find")
    × IsFlag (codes "refutation") rows true
IsRequest name rows (requests.Envelope envelope) = (name ≡ codes "envelope")
    × IsFlag (codes "servers") rows envelope.servers × IsFlag (codes "least") rows envelope.least
    × (step_given rows ≡ Some envelope.step.seconds)
IsRequest name rows (requests.OrderAfter asked) = ⊥
IsRequest name rows (requests.OrderWithin asked) = (name ≡ codes "order")
    × (is_one_clock rows ≡ true) × AreReadings rows asked.first asked.second

-- this question is asked of the files that are named
abbrev pub IsAsking : Request → List Row → Invocation → Type 0
IsAsking request rows (calls.Ask asked paths) = (asked ≡ request) × AreNamed rows paths
IsAsking request rows invocation = ⊥

-- what a command with a second input judges, and which of its operands or options names that input
abbrev pub IsJudgement : Text → List Row → Judgement → Type 0
IsJudgement name rows judgements.Check = name ≡ codes "check"
IsJudgement name rows (judgements.Refute drift) =
    (name ≡ codes "refute") × IsFlag (codes "drift") rows drift
IsJudgement name rows (judgements.Readings covers) = (name ≡ codes "at")
    × (first_of (codes "TIME") rows ≡ None) × IsSome (first_of (codes "times") rows)
    × IsFlag (codes "covers") rows covers

abbrev pub second_operand : Judgement → Text
second_operand judgements.Check = codes "CERTIFICATE"
second_operand (judgements.Refute drift) = codes "REFUTATION"
second_operand (judgements.Readings covers) = codes "times"

-- One reading of each of two clocks is asked about.
pub record AreOrdered (rows : List Row) (first second : Shown) : Type 0 where
  pub are_two : is_one_clock rows ≡ false
  pub readings : AreReadings rows first.reading second.reading
  pub first_paths : AreNamed rows first.paths
  pub second_paths :
      AreNamedBy (codes "OTHER_CLAIM") (codes "OTHER_CAPTURE") rows second.paths

-- a moment that is asked about isn't written as a time
abbrev pub HasNoMoment : List Row → Option (String Global) → Type 0
HasNoMoment rows shown =
    (first_of (codes "times") rows ≡ None) × (time_given rows ≡ None)
    × (ticks_given (codes "TIME") rows ≡ None) × IsShownTime (codes "TIME") rows shown

-- by covers, a moment isn't written as a reading
abbrev pub HasNoReadingByCovers : List Row → Option (String Global) → Type 0
HasNoReadingByCovers rows shown =
    (first_of (codes "times") rows ≡ None) × IsFlag (codes "covers") rows true
    × (ticks_given (codes "TIME") rows ≡ None) × IsShownTime (codes "TIME") rows shown

-- of two readings the first isn't written as one, or the second alone
abbrev pub HasNoReading : List Row → Option (String Global) → Type 0
HasNoReading rows shown =
    ((ticks_given (codes "TIME") rows ≡ None) × IsShownTime (codes "TIME") rows shown)
    ⊎ (IsSome (ticks_given (codes "TIME") rows) × (ticks_given (codes "OTHER_TIME") rows ≡ None)
    × IsShownTime (codes "OTHER_TIME") rows shown)

-- what a command with these rows calls for
abbrev pub IsCalled : Text → List Row → Invocation → Type 0
IsCalled name rows (calls.List listed) = (name ≡ codes "list") × IsListed rows listed
IsCalled name rows (calls.Ask request paths) = IsRequest name rows request × AreNamed rows paths
IsCalled name rows (calls.Judge judgement paths) = IsJudgement name rows judgement
    × AreJudgedNamed (second_operand judgement) rows paths
IsCalled name rows (calls.Order first second) =
    (name ≡ codes "order") × AreOrdered rows first second
IsCalled name rows (calls.RefuseTime shown) = ((name ≡ codes "at") × HasNoMoment rows shown)
    ⊎ ((name ≡ codes "at") × HasNoReadingByCovers rows shown)
    ⊎ ((name ≡ codes "order") × HasNoReading rows shown)
IsCalled name rows (calls.Refuse text) = IsRefusable name rows (string_bytes text)
IsCalled name rows (calls.Show text) = ⊥

-- what the rows of a command line call for: those of its command
abbrev pub IsCalledBy : Option (Text × List Row) → Invocation → Type 0
IsCalledBy (Some found) invocation = IsCalled found.0 found.1 invocation
IsCalledBy None invocation = IsRefusedBy (codes "no command\n") invocation
