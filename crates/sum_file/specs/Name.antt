-- How `sha256sum` writes a name.
--
-- A name with a backslash, a line feed or a carriage return has a backslash before its whole line.
-- There a backslash stands as two, a line feed as a backslash and `n`, a carriage return as a
-- backslash and `r`, and every other byte as it is.
use Rattle.std.specs.Prelude.{ℕ, ◌==◌, Bool, ◌||◌, List, [], ◌∷◌, Option, Some, None, option_map, option_and_then, if◌then◌else◌}
use Rattle.std.specs.List.{flat_map, list_any}

-- the bytes that matter
abbrev pub line_feed : ℕ
line_feed = 10

abbrev pub carriage_return : ℕ
carriage_return = 13

abbrev pub backslash : ℕ
backslash = 92

abbrev pub letter_n : ℕ
letter_n = 110

abbrev pub letter_r : ℕ
letter_r = 114

-- a byte of a name that has to be escaped
abbrev pub is_special : ℕ → Bool
is_special byte = byte == backslash || byte == line_feed || byte == carriage_return

-- the name has such a byte
abbrev pub has_special : List ℕ → Bool
has_special name = list_any is_special name

-- a byte as it is written in an escaped name
abbrev pub escape : ℕ → List ℕ
escape byte =
    if byte == backslash then backslash ∷ backslash ∷ []
    else if byte == line_feed then backslash ∷ letter_n ∷ []
    else if byte == carriage_return then backslash ∷ letter_r ∷ []
    else byte ∷ []

-- a name as it is written there
abbrev pub escaped : List ℕ → List ℕ
escaped name = flat_map escape name

-- the byte that a backslash and this byte stand for
abbrev pub unescape : ℕ → Option ℕ
unescape byte =
    if byte == backslash then Some backslash
    else if byte == letter_n then Some line_feed
    else if byte == letter_r then Some carriage_return
    else None

-- a byte, and then the rest of a name, if both are there
abbrev pub followed : Option ℕ → Option (List ℕ) → Option (List ℕ)
followed byte rest = option_and_then (λ b. option_map (λ name. b ∷ name) rest) byte

-- the name that is written so, if a backslash stands only before one of the three
abbrev pub unescaped : List ℕ → Option (List ℕ)
unescaped [] = Some []
unescaped (byte ∷ []) = if byte == backslash then None else Some (byte ∷ [])
unescaped (byte ∷ next ∷ rest) =
    if byte == backslash then followed (unescape next) (unescaped rest)
    else followed (Some byte) (unescaped (next ∷ rest))
