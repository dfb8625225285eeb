-- The end of a certificate's text.
use Rattle.std.specs.Prelude.{◌≡◌, ◌⊎◌, ℕ, List, codes}

-- the brackets after the last piece, and perhaps a line feed
abbrev pub IsEnding : List ℕ → Type 0
IsEnding rest = (rest ≡ codes "]}") ⊎ (rest ≡ codes "]}\n")
