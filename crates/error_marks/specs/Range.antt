-- The limits that marks keep.
use Rattle.std.specs.Prelude.{◌^◌, ◌≤◌, unsigned_abs}
use Rattle.error_marks.specs.declared.mark.Mark.{Mark}

-- both numbers of ticks lie from -2^73 to 2^73
pub record IsWithinRange (mark : Mark) : Type 0 where
  pub place : unsigned_abs mark.place ≤ 2 ^ 73
  pub error : unsigned_abs mark.error ≤ 2 ^ 73
