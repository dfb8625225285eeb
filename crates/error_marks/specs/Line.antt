-- The lines through a mark along which the error changes as fast as it may.
--
-- From a mark the error falls by at most P/(B-P) of what the clock advances, and behind it rises by
-- at most P/(B+P). Each number below is the same at all points of such a line, and is greater the
-- higher the line lies. So marks are compared by it without a division.
use Rattle.std.specs.Prelude.{ℕ, ◌+◌, ◌-◌, ℤ, pos, ◌+ℤ◌, ◌-ℤ◌, ◌*ℤ◌}
use Rattle.sample_interval.specs.Widening.{billion}
use Rattle.error_marks.specs.declared.mark.Mark.{Mark}

-- of the line that falls as fast as the error may
abbrev pub falling_line : ℕ → Mark → ℤ
falling_line ppb m = (pos (billion - ppb) *ℤ m.error) +ℤ (pos ppb *ℤ m.place)

-- of the line that rises as fast as the error may
abbrev pub rising_line : ℕ → Mark → ℤ
rising_line ppb m = (pos (billion + ppb) *ℤ m.error) -ℤ (pos ppb *ℤ m.place)
