-- The command line as a table: each command with its operands and options, as `--help` has them.
use Rattle.std.specs.Prelude.{◌≡◌, ◌++◌, IfOk, Result, pos, true, false, List, [], ◌∷◌, Some, codes}
use Rattle.command_table.specs.Common.{AllocError, new_shape, is_empty, App, Rule, Shape, Text, app_of, new_rule, SetTrue, Command, out-Command, Signed}

-- ---- operands and options

-- NAME
abbrev pub required : Text → Rule
required name = record (new_rule name) { required = true }

-- [NAME]
abbrev pub optional : Text → Rule
optional name = new_rule name

-- --name
abbrev pub flag : Text → Rule
flag name = record (new_rule name) { long = Some name; action = Some SetTrue }

-- --name VALUE
abbrev pub valued : Text → Rule
valued name = record (new_rule name) { long = Some name; value_names = 1 }

-- -H, --human
abbrev pub human : Rule
human = record (flag (codes "human")) { short = Some 72 }

-- --step N, from 1 to 86400, and 64 if it is left out
abbrev pub step : Rule
step = record (valued (codes "step")) {
  parser = Some (Signed (pos 1) (pos 86400));
  defaults = codes "64" ∷ [];
}

-- --sums SUMS
abbrev pub sums : Rule
sums = valued (codes "sums")

-- -o, --output FILE
abbrev pub output : Rule
output = record (valued (codes "output")) { short = Some 111 }

-- ---- commands

-- NAME and these
abbrev pub command : Text → List Rule → Shape
command name rules = record (new_shape name) { rules = rules }

-- NAME CLAIM CAPTURE [--human] and these
abbrev pub on_claim : Text → List Rule → Shape
on_claim name rules = command name
    (required (codes "CLAIM") ∷ required (codes "CAPTURE") ∷ human ∷ rules)

abbrev pub list : Shape
list = command (codes "list") (optional (codes "CAPTURE") ∷ human ∷ [])

abbrev pub samples : Shape
samples = on_claim (codes "samples") []

abbrev pub at : Shape
at = on_claim (codes "at")
    (optional (codes "TIME") ∷ valued (codes "times") ∷ flag (codes "covers") ∷ sums ∷ [])

-- a reading of a clock, and one of another
abbrev pub order : Shape
order = on_claim (codes "order")
    (required (codes "TIME") ∷ required (codes "OTHER_CLAIM") ∷ required (codes "OTHER_CAPTURE")
    ∷ required (codes "OTHER_TIME") ∷ [])

abbrev pub settle : Shape
settle = on_claim (codes "settle") (output ∷ sums ∷ [])

abbrev pub check : Shape
check = on_claim (codes "check") (required (codes "CERTIFICATE") ∷ sums ∷ [])

abbrev pub find : Shape
find = on_claim (codes "find") (step ∷ flag (codes "refutation") ∷ output ∷ [])

abbrev pub refute : Shape
refute = on_claim (codes "refute")
    (required (codes "REFUTATION") ∷ flag (codes "drift") ∷ sums ∷ [])

abbrev pub envelope : Shape
envelope = on_claim (codes "envelope")
    (step ∷ flag (codes "servers") ∷ flag (codes "least") ∷ [])

-- all commands
abbrev pub commands : List Shape
commands =
    list ∷ samples ∷ at ∷ order ∷ settle ∷ check ∷ find ∷ refute ∷ envelope ∷ []

-- the program with these commands
abbrev pub program_of : List Shape → App
program_of commands = record {
  top = record (new_shape (codes "ntpaudit")) {
    has_version = true;
    subcommand_required = true;
    is_leaf = is_empty commands;
  };
  subs = commands;
}

abbrev pub ntpaudit : App
ntpaudit = program_of commands

-- ---- what is declared

-- a program that is declared as this table has it
pub record IsProgram (app : App) (command : Command) : Type 0 where
  pub is : app_of command ≡ app
  pub local : (out-Command command).has_globals ≡ false

-- a command that is
abbrev pub IsDeclared : Shape → Command → Type 0
IsDeclared shape command = IsProgram (record { top = shape; subs = [] }) command

-- a program with the commands of another and, as its last, what was declared
abbrev pub IsWith : Command → Result Command AllocError → Command → Type 0
IsWith old declared new = (shapes : List Shape) (shape : Shape) → IsProgram (program_of shapes) old
    → IfOk declared (IsDeclared shape) → IsProgram (program_of (shapes ++ shape ∷ [])) new
