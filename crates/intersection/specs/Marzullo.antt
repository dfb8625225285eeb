-- Marzullo's algorithm (K. Marzullo, "Maintaining the Time in a Distributed System", 1984; RFC
-- 5905, section 11.2.1): a walk along the sorted ends of intervals that stops at the first point
-- which enough of them have. Only the code's own contracts speak of it.
use Rattle.std.specs.Prelude.{ℕ, ◌+◌, ℤ, cond, nat_le, List, [], ◌∷◌, Option, Some, None}
use Rattle.intersection.specs.Ends.{enters}
use Rattle.intersection.specs.declared.ends.End.{End}
use Rattle.intersection.specs.declared.ends.Side.{Side}

-- Where a walk stops: at the first end by which `needed` more intervals were entered than left.
-- Before these ends it entered `entered` and left `left`.
abbrev pub first_reached : Side → ℕ → ℕ → ℕ → List End → Option ℤ
first_reached entrance needed entered left [] = None
first_reached entrance needed entered left (end ∷ ends) =
    cond (enters entrance end)
    (cond (nat_le (left + needed) (entered + 1)) (Some end.at)
    (first_reached entrance needed (entered + 1) left ends))
    (first_reached entrance needed entered (left + 1) ends)
