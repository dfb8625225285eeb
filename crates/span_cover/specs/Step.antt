-- Pieces of equal length.
use Rattle.std.specs.Prelude.{ℕ, ◌+◌, ◌*◌, ℤ, pos, ◌+ℤ◌}
use Rattle.span_cover.specs.Common.{int_min, ticks_per_second}

-- the end of piece k, if the span is cut every `step` seconds: the last piece ends with the span
abbrev pub piece_end_of : ℤ → ℤ → ℕ → ℕ → ℤ
piece_end_of first last step k = int_min (first +ℤ pos ((k + 1) * step * ticks_per_second)) last
