-- What may be said of a run behind its fault line.
use Rattle.std.specs.Prelude.{◌≡◌, ◌⊎◌, ℕ, Bool, true, false, List, [], is_some, option_map, unwrap_or, string_bytes}
use Rattle.fault_words.specs.Subject.{NamesData}
use Rattle.program.specs.Invocation.{is_human, listed_name}
use Rattle.program.specs.declared.asked.Asked.{Asked}
use Rattle.program.specs.declared.asked.Asked.TheVariants as asks
use Rattle.program.specs.declared.invocation.Invocation.{Invocation}
use Rattle.program.specs.declared.invocation.Invocation.TheVariants as calls
use Rattle.program.specs.declared.invocation.Paths.{Paths}

-- what remains of a command line once its run is over: of two clocks the one whose files were
-- read last
abbrev pub IsAskedBy : Invocation → Asked → Type 0
IsAskedBy (calls.List listed) asked = asked ≡ asks.Listing listed
IsAskedBy (calls.Ask request paths) asked = asked ≡ asks.Question paths
IsAskedBy (calls.Judge judgement paths) asked = asked ≡ asks.Judgement paths
IsAskedBy (calls.Order first second) asked =
    (asked ≡ asks.Question first.paths) ⊎ (asked ≡ asks.Question second.paths)
IsAskedBy (calls.RefuseTime time) asked = asked ≡ asks.Time time
IsAskedBy (calls.Show text) asked = asked ≡ asks.Nothing
IsAskedBy (calls.Refuse text) asked = asked ≡ asks.Nothing

-- the operand that names the file of sums, empty if there is none
abbrev pub sums_name : Paths → List ℕ
sums_name paths = unwrap_or (option_map string_bytes paths.sums) []

-- what the inputs of a run are called: each by its own operand
abbrev pub names_of : Asked → NamesData
names_of (asks.Listing listed) =
    record { claim = []; capture = listed_name listed; second = []; sums = [] }
names_of (asks.Question paths) = record {
  claim = string_bytes paths.claim;
  capture = string_bytes paths.capture;
  second = [];
  sums = sums_name paths;
}
names_of (asks.Judgement paths) = record {
  claim = string_bytes paths.evidence.claim;
  capture = string_bytes paths.evidence.capture;
  second = string_bytes paths.second;
  sums = sums_name paths.evidence;
}
names_of _ = record { claim = []; capture = []; second = []; sums = [] }

-- what the output of a run is called, empty if it has none
abbrev pub output_of : Asked → List ℕ
output_of (asks.Question paths) = unwrap_or (option_map string_bytes paths.output) []
output_of _ = []

-- whether a run was asked to say more: by `--human`
abbrev pub is_for_a_person : Asked → Bool
is_for_a_person (asks.Listing listed) = is_human listed.style
is_for_a_person (asks.Question paths) = is_human paths.style
is_for_a_person (asks.Judgement paths) = is_human paths.evidence.style
is_for_a_person (asks.Time time) = is_some time
is_for_a_person asks.Nothing = false

-- whether a fault of a run has a line whose words are fixed
abbrev pub has_a_fault_line : Asked → Bool
has_a_fault_line asks.Nothing = false
has_a_fault_line _ = true
