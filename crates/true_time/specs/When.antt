-- When a clock showed a reading, as far as its hull says: between two true times, at any time, or
-- never.
use Rattle.std.specs.Prelude.{◌≡◌, ℕ, ℤ, pos, ⊤, List, if◌then◌else◌}
use Rattle.true_time.specs.Common.{Course, Fits, IsObservedIn, samples_of, ClaimData, Hull, Bounded, Empty, Unbounded, Exchange, ReadingData, IsInWindow, Sample}
use Rattle.true_time.specs.ReadingLine.{are_near}
use Rattle.true_time.specs.TrueTime.{earliest, hull_of, latest}
use Rattle.true_time.specs.declared.when.When.{When}
use Rattle.true_time.specs.declared.when.When.TheVariants.{Between, Never, Whenever}

-- by the hull over its ticks: ends that aren't near say nothing
abbrev pub when_of : ReadingData → Hull → When
when_of r (Bounded low high) =
    if are_near low high then Between (earliest r high) (latest r low) else Whenever
when_of r Unbounded = Whenever
when_of r Empty = Never

-- by samples under a claim
abbrev pub when_at : List Sample → ClaimData → ReadingData → When
when_at samples claim r = when_of r (hull_of samples claim r)

-- a true time, in parts of 1/n tick, is one of these
abbrev pub IsDuring : When → ℕ → ℤ → Type 0
IsDuring (Between first last) n time = IsInWindow n first last time
IsDuring Whenever n time = ⊤
IsDuring Never n time = ⊥

-- in every course that fits exchanges with these samples, it is then that the clock shows a reading
abbrev pub HoldsWhen : ClaimData → List Sample → ReadingData → When → Type 0
HoldsWhen claim samples r when = (xs : List Exchange) (course : Course)
    → samples ≡ samples_of xs claim → Fits claim xs course
    → IsObservedIn course (pos r.begin) (pos r.end)
    → IsDuring when course.fineness course.observation.time
