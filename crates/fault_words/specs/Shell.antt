-- How a shell reads an argument of a command (POSIX.1-2017, Shell Command Language, sections 2.2
-- and 2.3), and by which one a remedy calls a file.
use Rattle.std.specs.Prelude.{◌≡◌, ◌⊎◌, ℕ, ◌<◌, ◌==◌, ◌&&◌, ◌||◌, Bool, false, true, List, codes, ◌++◌, if◌then◌else◌, length, nat_eq, nat_le}
use Rattle.std.specs.List.{list_all, list_any, starts_with}
use Rattle.std.specs.Str.{bytes_eq}
use Rattle.fault_words.specs.Quote.{shown}

-- a letter or digit of ASCII, or one of + , - . / : _ = : to a shell it stands for itself
abbrev pub is_plain : ℕ → Bool
is_plain c = (nat_le 97 c && nat_le c 122) || (nat_le 65 c && nat_le c 90)
    || (nat_le 43 c && nat_le c 58) || c == 95 || c == 61

-- a single quote
abbrev pub is_quote : ℕ → Bool
is_quote c = c == 39

-- A shell reads a text as this one word, and as nothing else: each byte stands for itself, or all
-- stand between two single quotes, and none of them is one.
abbrev pub ReadsAs : List ℕ → List ℕ → Type 0
ReadsAs text word =
    ((text ≡ word) × (0 < length word) × (list_all is_plain word ≡ true))
    ⊎ ((text ≡ codes "'" ++ word ++ codes "'") × (list_any is_quote word ≡ false))

-- whether a name is none by which a command gets the file: that of a stream, or an option
abbrev pub is_no_word : List ℕ → Bool
is_no_word name = bytes_eq name (codes "standard input")
    || starts_with nat_eq name (codes "/dev/") || starts_with nat_eq name (codes "-")

-- whether quotes are no help: there is nothing to quote, or a quote in it
abbrev pub is_past_quoting : List ℕ → Bool
is_past_quoting word = length word == 0 || list_any is_quote word

-- the word by which a file of this name is called: the name as it is shown, or another for one that
-- a command or quotes can't take
abbrev pub word_of : List ℕ → List ℕ
word_of name =
    if is_no_word name || is_past_quoting (shown name) then codes "FILE" else shown name

-- a file's name, as one word
abbrev pub IsName : List ℕ → Type 0
IsName text = (name : List ℕ) × ReadsAs text (word_of name)

-- two such, with a blank between them: a claim and a capture
abbrev pub AreTwo : List ℕ → Type 0
AreTwo text = (first second : List ℕ) × (text ≡ first ++ codes " " ++ second)
    × IsName first × IsName second

-- these and a third: a second input
abbrev pub AreThree : List ℕ → Type 0
AreThree text = (both third : List ℕ) × (text ≡ both ++ codes " " ++ third)
    × AreTwo both × IsName third
