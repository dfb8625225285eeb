-- When it was that a clock showed a reading.
--
-- The hull over the ticks for which the reading stands holds the clock's error in every course of
-- events that fits. True time is the reading less the error: so it was no earlier than the first of
-- these ticks less the hull's high end, and no later than the last one less its low end.
use Rattle.std.specs.Prelude.{◌≡◌, ℕ, ℤ, pos, ◌-ℤ◌, ⊤, List, []}
use Rattle.true_time.specs.Common.{Course, Fits, IsObservedIn, samples_of, ClaimData, best_entries, best_hull, parts_named, stretch_over, Hull, Bounded, Empty, Unbounded, Exchange, ReadingData, IsInWindow, Sample, Part}

-- the hull over the ticks for which a reading stands
abbrev pub hull_of : List Sample → ClaimData → ReadingData → Hull
hull_of samples claim r = best_hull samples claim (stretch_over (pos r.begin) (pos r.end))

-- what each server that has a sample says over them, in the order of the servers
abbrev pub parts_of : List Sample → ClaimData → ReadingData → List Part
parts_of samples claim r =
    let stretch = stretch_over (pos r.begin) (pos r.end) in
    parts_named samples claim stretch (best_entries samples claim stretch)

-- a reading that stands for these ticks, however it is written
abbrev pub reading_over : ℕ → ℕ → ReadingData
reading_over begin end = record { text = []; begin = begin; end = end }

-- the earliest true time, in Unix ticks, if the error is at most so many ticks
abbrev pub earliest : ReadingData → ℤ → ℤ
earliest r high = pos r.begin -ℤ high

-- the latest, if it is at least so many
abbrev pub latest : ReadingData → ℤ → ℤ
latest r low = pos r.end -ℤ low

-- True time, when the clock is observed, lies between what the hull says of a reading. An unbounded
-- hull says nothing, and an empty one that there is no such course.
abbrev pub IsThen : Course → ReadingData → Hull → Type 0
IsThen course r Unbounded = ⊤
IsThen course r Empty = ⊥
IsThen course r (Bounded low high) =
    IsInWindow course.fineness (earliest r high) (latest r low) course.observation.time

-- So it is in every course that fits exchanges with these samples, whenever the clock shows a
-- reading of these ticks.
abbrev pub HoldsTrueTime : ClaimData → List Sample → ReadingData → Hull → Type 0
HoldsTrueTime claim samples r hull = (xs : List Exchange) (course : Course)
    → samples ≡ samples_of xs claim → Fits claim xs course
    → IsObservedIn course (pos r.begin) (pos r.end) → IsThen course r hull
