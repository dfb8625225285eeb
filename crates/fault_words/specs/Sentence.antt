-- The sentence of a fault: what is wrong, and what to do. That there is a sentence for each, and
-- which, is a table, which tests/system/test_words.py sees; here stands what holds of all.
use Rattle.std.specs.Prelude.{◌≡◌, ◌⊎◌, List, ℕ, [], ◌∷◌, Bool, false, T, if◌then◌else◌, nat_eq, chars, string_bytes}
use Rattle.std.specs.List.{flat_map}
use Rattle.fault_words.specs.Quote.{IsQuiet, are_visible, shown_char}
use Rattle.fault_words.specs.Shell.{AreThree, AreTwo, IsName}
use Rattle.fault_words.specs.declared.remedy.Known.{Known}
use Rattle.fault_words.specs.declared.sentence.Sentence.{Sentence}

-- whether there are words, of which a terminal obeys no character
abbrev pub are_words : List ℕ → Bool
are_words [] = false
are_words (c ∷ cs) = are_visible (c ∷ cs)

-- a sentence that has words for what is wrong, and for what to do
pub record IsSentence (sentence : Sentence) : Type 0 where
  pub wrong : T (are_words sentence.wrong.now)
  pub remedy : T (are_words sentence.remedy.now)

-- what is put in place of a remedy's marks: the file, its place, the claim and the capture, all
-- inputs, the sums
pub record KnownData : Type 0 where
  pub file : List ℕ
  pub place : List ℕ
  pub evidence : List ℕ
  pub inputs : List ℕ
  pub sums : List ℕ

-- the same of a value of the program
abbrev pub known_data : Known → KnownData
known_data known = record {
  file = string_bytes known.file;
  place = string_bytes known.place;
  evidence = string_bytes known.evidence;
  inputs = string_bytes known.inputs;
  sums = string_bytes known.sums;
}

-- A shell reads each file's name in it as one word.
pub record AreNames (known : KnownData) : Type 0 where
  pub file : IsName known.file
  pub evidence : (known.evidence ≡ []) ⊎ AreTwo known.evidence
  pub inputs : (known.inputs ≡ []) ⊎ (AreTwo known.inputs ⊎ AreThree known.inputs)
  pub sums : (known.sums ≡ []) ⊎ IsName known.sums

-- A terminal obeys nothing of it, and a shell reads the names as words.
pub record IsQuietKnown (known : KnownData) : Type 0 where
  pub file : IsQuiet known.file
  pub place : IsQuiet known.place
  pub evidence : IsQuiet known.evidence
  pub inputs : IsQuiet known.inputs
  pub sums : IsQuiet known.sums
  pub names : AreNames known

-- what is put in place of a character: `@`, `#`, `~`, `&`, `%`, or one that is no mark
abbrev pub filling : KnownData → ℕ → List ℕ
filling known c =
    if nat_eq c 0x40 then known.file else
    if nat_eq c 0x23 then known.place else
    if nat_eq c 0x7E then known.evidence else
    if nat_eq c 0x26 then known.inputs else
    if nat_eq c 0x25 then known.sums else
    shown_char c

-- a remedy in which this is known
abbrev pub filled : KnownData → List ℕ → List ℕ
filled known remedy = flat_map (filling known) (chars remedy)
