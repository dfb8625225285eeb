-- What the words of a command line call for.
use Rattle.std.specs.Prelude.{◌≡◌, ◌&&◌, ◌||◌, Bool, true, false, List, [], ◌∷◌, Option, None, Some, IfSome, String, if◌then◌else◌, nat_lt, codes, count_by, map, option_map, slice_get, string_bytes, take, unwrap_or}
use Rattle.command_line.specs.Common.{option_map_or, bytes_eq, Global, IsAmong, Kinds, Row, Text, fault_of, subcommand_of, ErrorKind, DisplayHelp, DisplayVersion, IsRefusedBy, Invocation, Paths}
use Rattle.command_table.specs.Commands.{ntpaudit}
use Rattle.command_line.specs.Invocation.{IsCalledBy}
use Rattle.program.specs.declared.invocation.Invocation.TheVariants as calls

abbrev pub is_word : Text → Option (String Global) → Bool
is_word wanted given = option_map_or (λ word. bytes_eq (string_bytes word) wanted) given false

-- the words that count: `help --help` is `help`
abbrev pub counted : List (String Global) → List (String Global)
counted words =
    if is_word (codes "help") (slice_get words 1)
    && (is_word (codes "--help") (slice_get words 2) || is_word (codes "-h") (slice_get words 2))
    then take 2 words else words

-- ---- inputs and outputs that can't be told apart

-- whether standard input would be two of these inputs
abbrev pub is_twice : List Text → Bool
is_twice names = nat_lt 1 (count_by (λ name. bytes_eq name (codes "-")) names)

-- whether this output is no file
abbrev pub is_no_file : Text → Bool
is_no_file path = bytes_eq path (codes "-") || bytes_eq path []

abbrev pub twice_text : Text
twice_text =
    codes "error: standard input, -, can be one input alone: give each other by its file\n"

abbrev pub no_file_text : Text
no_file_text = codes "error: -o takes a file's path; standard output needs no -o\n"

-- what is told of these paths, beside a second input of this path, if they can't go together: of
-- two reasons the first
abbrev pub misuse_of : Paths → Text → Option Text
misuse_of paths second =
    if is_twice (string_bytes paths.claim ∷ string_bytes paths.capture ∷ second
    ∷ unwrap_or (option_map string_bytes paths.sums) [] ∷ [])
    then Some twice_text
    else (if option_map_or (λ path. is_no_file (string_bytes path)) paths.output false
    then Some no_file_text else None)

-- what is told of the claims and captures of two clocks, if they can't go together
abbrev pub misuse_of_two : Paths → Paths → Option Text
misuse_of_two first second =
    if is_twice (string_bytes first.claim ∷ string_bytes first.capture
    ∷ string_bytes second.claim ∷ string_bytes second.capture ∷ [])
    then Some twice_text else None

abbrev pub misuse_in : Invocation → Option Text
misuse_in (calls.Ask request paths) = misuse_of paths []
misuse_in (calls.Judge judgement paths) = misuse_of paths.evidence (string_bytes paths.second)
misuse_in (calls.Order first second) = misuse_of_two first.paths second.paths
misuse_in invocation = None

-- What is called for, refused if its paths can't go together.
pub record IsReadOnce (called invocation : Invocation) : Type 0 where
  pub misused : IfSome (misuse_in called) (λ text. IsRefusedBy text invocation)
  pub lawful : misuse_in called ≡ None → invocation ≡ called

-- ---- the words

-- whether a text is shown instead of told as a fault
abbrev pub is_shown : ErrorKind → Bool
is_shown DisplayHelp = true
is_shown DisplayVersion = true
is_shown kind = false

-- a text is shown, or the words are refused
abbrev pub IsTold : ErrorKind → Invocation → Type 0
IsTold kind (calls.Show text) = is_shown kind ≡ true
IsTold kind (calls.Refuse text) = is_shown kind ≡ false
IsTold kind invocation = ⊥

-- what words call for whose faults may be these: they are told, and with none the command's rows
-- call for something
abbrev pub MeansBy : Kinds → Option (Text × List Row) → Invocation → Type 0
MeansBy [] found invocation =
    (called : Invocation) × IsCalledBy found called × IsReadOnce called invocation
MeansBy (kind ∷ kinds) found invocation =
    (told : ErrorKind) × IsAmong told (kind ∷ kinds) × IsTold told invocation

-- what the words of a command line call for, by the table of commands
abbrev pub Means : List (String Global) → Invocation → Type 0
Means words invocation =
    let texts = map string_bytes (counted words) in
    MeansBy (fault_of ntpaudit texts) (subcommand_of ntpaudit texts) invocation
