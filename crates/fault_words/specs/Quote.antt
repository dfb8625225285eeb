-- How what stands in a file or on the command line is shown: what a terminal obeys as numbers.
use Rattle.std.specs.Prelude.{◌≡◌, ◌⊎◌, ℕ, List, [], ◌∷◌, false, true, ◌++◌, codes, chars, encode_utf8, take, Bool, ◌&&◌, ◌||◌, if◌then◌else◌, nat_le, nat_lt}
use Rattle.std.specs.Char.{is_control}
use Rattle.std.specs.Int.{is_in_range}
use Rattle.std.specs.Fmt.{digits}
use Rattle.std.specs.List.{flat_map}
use Rattle.std.specs.Str.{NoCharPasses}

-- whether a character turns the direction in which others are shown (Unicode's Bidi_Control)
abbrev pub turns : ℕ → Bool
turns c = is_in_range 0x61C 0x61C c || is_in_range 0x200E 0x200F c || is_in_range 0x202A 0x202E c
    || is_in_range 0x2066 0x2069 c

-- whether a terminal obeys a character: a control character, as a line feed is, or one that turns
-- others
abbrev pub is_obeyed : ℕ → Bool
is_obeyed c = is_control c || turns c

-- a text of which a terminal obeys no character
abbrev pub IsQuiet : List ℕ → Type 0
IsQuiet text = NoCharPasses is_obeyed text

-- a blank, or a sign of ASCII that is printed
abbrev pub is_visible : ℕ → Bool
is_visible c = nat_le 32 c && nat_lt c 127

-- the same of each character of a text
abbrev pub are_visible : List ℕ → Bool
are_visible [] = true
are_visible (c ∷ cs) = is_visible c && are_visible cs

-- a character: itself, or its number in hexadecimal digits
abbrev pub shown_char : ℕ → List ℕ
shown_char c = if is_obeyed c then codes "\\u{" ++ digits 16 false c ++ codes "}"
    else encode_utf8 c

-- a text so
abbrev pub shown : List ℕ → List ℕ
shown text = flat_map shown_char (chars text)

-- the first 40 characters so
abbrev pub front : List ℕ → List ℕ
front text = flat_map shown_char (take 40 (chars text))

-- these alone, or two dots behind them
abbrev pub IsQuoted : List ℕ → List ℕ → Type 0
IsQuoted text out = (out ≡ front text) ⊎ (out ≡ front text ++ codes "..")
