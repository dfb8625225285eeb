-- The words about a fault: two lines that begin with two blanks.
use Rattle.std.specs.Prelude.{◌≡◌, List, ℕ, [], ◌++◌, codes, Bool, false, T, nat_eq, if◌then◌else◌, string_bytes}
use Rattle.claim_file.specs.declared.fault.ClaimFault.{ClaimFault}
use Rattle.claim_file.specs.declared.fault.ClaimFault.TheVariants as claims
use Rattle.report.specs.declared.fault.RunFault.{RunFault}
use Rattle.report.specs.declared.fault.RunFault.TheVariants as faults
use Rattle.fault_words.specs.ClaimField.{field_name}
use Rattle.fault_words.specs.Sentence.{IsQuietKnown, KnownData, are_words, filled}
use Rattle.fault_words.specs.declared.seen.Seen.{Seen}
use Rattle.fault_words.specs.declared.kind.FileKind.{FileKind}
use Rattle.fault_words.specs.Quote.{IsQuiet, IsQuoted}
use Rattle.fault_words.specs.Subject.{NamesData, input_of, subject}

-- what was seen of a fault when its input was looked at again: the field of a claim, or 0, whether
-- it isn't there, what the file is instead, and what is said behind the sentence
pub record SeenData : Type 0 where
  pub field : ℕ
  pub is_missing : Bool
  pub kind : FileKind
  pub seen : List ℕ

-- the same of a value of the program
abbrev pub seen_data : Seen → SeenData
seen_data found = record {
  field = found.field;
  is_missing = found.is_missing;
  kind = found.kind;
  seen = string_bytes found.seen;
}

-- What was seen is told without a character that a terminal obeys.
abbrev pub IsToldQuietly : Seen → Type 0
IsToldQuietly found = IsQuiet (string_bytes found.seen)

-- a file of that kind, in which nothing was seen but this
abbrev pub nothing_seen : FileKind → List ℕ → SeenData
nothing_seen kind seen = record { field = 0; is_missing = false; kind = kind; seen = seen }

-- the field of the claim that a claim's fault is of, or 0
abbrev pub claim_field_of : ClaimFault → ℕ → ℕ
claim_field_of (claims.Field code) seen = code
claim_field_of claims.Address seen = seen
claim_field_of claims.Time seen = seen
claim_field_of claims.Range seen = seen
claim_field_of _ seen = 0

-- the same of any fault
abbrev pub field_of : RunFault → ℕ → ℕ
field_of (faults.Claim fault) seen = claim_field_of fault seen
field_of _ seen = 0

-- a field is named, if there is one
abbrev pub field_words : ℕ → List ℕ
field_words field =
    if nat_eq field 0 then [] else codes "\"" ++ field_name field ++ codes "\" "

-- the words that begin so: a sentence, what was seen behind what is wrong, and what to do, in which
-- the marks are filled
pub record AreWords (begin seen text : List ℕ) : Type 0 where
  pub wrong : List ℕ
  pub remedy : List ℕ
  pub known : KnownData
  pub lines : text ≡ codes "  " ++ begin ++ wrong ++ seen ++ codes "\n  " ++ filled known remedy
      ++ codes "\n"
  pub wrong_said : T (are_words wrong)
  pub remedy_said : T (are_words remedy)
  pub quiet : IsQuietKnown known

-- the words about a fault of inputs with these names
abbrev pub IsExplanation : NamesData → RunFault → SeenData → List ℕ → Type 0
IsExplanation names fault found text =
    AreWords (subject names (input_of fault) ++ field_words (field_of fault found.field))
    found.seen text

-- those about a file of this name that can't be written
abbrev pub IsOutputExplanation : List ℕ → List ℕ → List ℕ → Type 0
IsOutputExplanation name seen text = AreWords (name ++ codes ": ") seen text

-- those about a TIME that is none: its first 40 characters, and two dots if there are more
abbrev pub IsTimeExplanation : List ℕ → List ℕ → Type 0
IsTimeExplanation time text = (quoted : List ℕ) × IsQuoted time quoted
    × AreWords (codes "TIME ") (codes "; it is \"" ++ quoted ++ codes "\"") text

-- names of which a terminal obeys no character
pub record AreQuiet (names : NamesData) : Type 0 where
  pub claim : IsQuiet names.claim
  pub capture : IsQuiet names.capture
  pub second : IsQuiet names.second
  pub sums : IsQuiet names.sums

-- two lines, of which a terminal obeys nothing but the line feeds behind them
abbrev pub AreTwoLines : List ℕ → Type 0
AreTwoLines text = (first second : List ℕ)
    × (text ≡ first ++ codes "\n" ++ second ++ codes "\n") × IsQuiet first × IsQuiet second
