-- What a report for a person ends with: the run's inputs, and the program.
use Rattle.std.specs.Prelude.{ℕ, List, ◌∷◌, ◌++◌, codes, Option, Some, None}
use Rattle.program.specs.Common.{flat_map, option_to_list, encode_lower, sum_given, input_word, Capture, Claim, shown}
use Rattle.program.specs.Opening.{Place, Places, place}
use Rattle.program.specs.declared.about.Called.{Called}

-- the SHA-256 that the text of a file of sums, if there is one, gives to a name
abbrev pub sum_in : Option (List ℕ) → List ℕ → Option (List ℕ)
sum_in None name = None
sum_in (Some text) name = sum_given text name

-- to which sum an input is held
abbrev pub held_to : Option (List ℕ) → List ℕ
held_to None = codes "not held to a sum"
held_to (Some digest) = codes "SHA-256 " ++ encode_lower digest

-- the line of an input: which it is, the operand that names it, and its sum
abbrev pub line_with : Option (List ℕ) → Place → List ℕ
line_with digest input = input_word input.input ++ codes " " ++ shown input.path ++ codes ": "
    ++ held_to digest ++ codes "\n"

-- the line of an input that is held to the text of a file of sums, if there is one
abbrev pub line_of : Option (List ℕ) → Place → List ℕ
line_of sums input = line_with (sum_in sums input.path) input

-- the line of the program
abbrev pub program_line : List ℕ
program_line = codes "ntpaudit 1.0.0 logic dac8208d650f15bf\n"

-- the lines about inputs in this order, which are held to the text of a file of sums, if there is
-- one, and about the program
unfoldable pub about_of : List Place → Option (List ℕ) → List ℕ
about_of inputs sums = flat_map (line_of sums) inputs ++ program_line

-- what a value of the program says
abbrev pub data_of : Called → Place
data_of called = place called.input called.name.now

-- the inputs of a question in the order of its command line
abbrev pub inputs_of : Places → List Place
inputs_of places = place Claim places.claim ∷ place Capture places.capture
    ∷ option_to_list places.second
