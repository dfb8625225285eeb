-- Bytes, as the numbers that they are.
use Rattle.std.specs.Prelude.{ℕ, ◌<◌, List, All, length, slice_index}
use Rattle.std.proofs.Common.{inl, inr, arith}
use Rattle.std.proofs.lemmas.Bool.{cases_lt}
use Rattle.std.proofs.lemmas.List.{get_or_past}

-- a list of bytes
abbrev pub IsBytes : List ℕ → Type 0
IsBytes bytes = All (λ byte. byte < 256) bytes

-- each place reads as a byte, and as 0 past the end
pub byte_at-lt : (bytes : List ℕ) → IsBytes bytes → (place : ℕ) → slice_index bytes place < 256
byte_at-lt bytes are_bytes place = elim (cases_lt place (length bytes)) [
  | inl inside ↦ are_bytes place 0 inside
  | inr past ↦ omega (arith, get_or_past bytes place 0 past)
]
