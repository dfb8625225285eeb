-- What the bytes of a JSON text say (RFC 8259).
--
-- The text is UTF-8, and its value is the one that the grammar gives it. The last value of a
-- repeated name counts. A whole number without sign, fraction or exponent that fits 64 bits is kept
-- as it is.
use Rattle.std.specs.Prelude.{ℕ, List, Option, None, if◌then◌else◌}
use Rattle.std.specs.Str.{is_utf8}
use Rattle.serde_json.specs.Data.{Data}
use Rattle.serde_json.specs.Read.{read}

-- the value of a text, and None if the bytes are no JSON text
abbrev pub parsed : List ℕ → Option Data
parsed bytes = if is_utf8 bytes then read bytes else None
