-- How far an error is beyond a bound, in whole nanoseconds.
use Rattle.std.specs.Prelude.{ℕ, ◌-◌, ℤ, pos, negsuc, unsigned_abs, Bool, nat_lt}
use Rattle.audit_text.specs.Common.{FieldData, Low, High, longer}

-- The size of an error, rounded up. So an error beyond a bound stays beyond it, and no other comes
-- to be.
abbrev pub size_of : ℤ → ℕ
size_of error = longer (unsigned_abs error)

-- it is beyond a bound of so many nanoseconds
abbrev pub is_beyond : ℕ → ℤ → Bool
is_beyond bound_ns error = nat_lt bound_ns (size_of error)

-- by so many nanoseconds
abbrev pub excess : ℕ → ℤ → ℕ
excess bound_ns error = size_of error - bound_ns

-- the error itself, rounded away from zero as its size is
abbrev pub error_field : ℤ → FieldData
error_field (pos n) = High (pos n)
error_field (negsuc n) = Low (negsuc n)
