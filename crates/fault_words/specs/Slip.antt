-- What looks like a slip of the pen in a claim. Nothing is refused for it.
use Rattle.std.specs.Prelude.{ℕ, ◌+◌, ◌*◌, List, [], ◌∷◌, ◌++◌, codes, Bool, ◌&&◌, ◌||◌, Option, None, Some, if◌then◌else◌, nat_le, nat_lt}
use Rattle.std.specs.List.{list_any}
use Rattle.line_writer.specs.Date.{time_text}
use Rattle.fault_words.specs.declared.slip.ClaimNumbers.{ClaimNumbers}
use Rattle.fault_words.specs.declared.slip.Recorded.{Recorded}

-- whether a span that begins and ends at these Unix seconds has no second of a capture, or all of
-- them are of it
abbrev pub is_outside : ℕ → ℕ → Recorded → Bool
is_outside begin end recorded = nat_lt end recorded.first || nat_lt recorded.last begin

abbrev pub is_inside : ℕ → ℕ → Recorded → Bool
is_inside begin end recorded = nat_le recorded.first begin && nat_le end recorded.last

-- the same span that many hours later, and the capture that many hours later
abbrev pub is_inside_later : ℕ → ℕ → Recorded → ℕ → Bool
is_inside_later begin end recorded hours =
    is_inside (begin + 3600 * hours) (end + 3600 * hours) recorded

abbrev pub is_inside_earlier : ℕ → ℕ → Recorded → ℕ → Bool
is_inside_earlier begin end recorded hours = is_inside begin end
    record { first = recorded.first + 3600 * hours; last = recorded.last + 3600 * hours }

-- by how many whole hours a local time may be beside UTC
abbrev pub zones : List ℕ
zones = 1 ∷ 2 ∷ 3 ∷ 4 ∷ 5 ∷ 6 ∷ 7 ∷ 8 ∷ 9 ∷ 10 ∷ 11 ∷ 12 ∷ 13 ∷ 14 ∷ []

-- whether the span would be of the capture if it was written that many hours later or earlier, or
-- some hours
abbrev pub is_beside : ℕ → ℕ → Recorded → ℕ → Bool
is_beside begin end recorded hours = is_inside_later begin end recorded hours
    || is_inside_earlier begin end recorded hours

abbrev pub is_hours_beside : ℕ → ℕ → Recorded → Bool
is_hours_beside begin end recorded = list_any (is_beside begin end recorded) zones

-- a line about a file of this name, if it is given
abbrev pub line_if : Bool → List ℕ → List ℕ → List ℕ
line_if given name words =
    if given then codes "  " ++ name ++ codes ": " ++ words ++ codes "\n" else []

-- what is said of a bound below 1 microsecond, of a drift below 1 ppm, of an allowance below 1
-- microsecond that isn't 0, and where all groups may be wrong
abbrev pub bound_words : List ℕ
bound_words = codes "\"bound_ns\" is below 1000, which are 0.001 ms; 5 ms are 5000000"

abbrev pub drift_words : List ℕ
drift_words = codes "\"drift_ppb\" is below 1000, which are 1 ppm; 100 ppm are 100000"

abbrev pub reading_words : List ℕ
reading_words = codes "\"reading_ns\" is below 1000, which are 0.001 ms; 0.1 ms are 100000"

abbrev pub is_small_allowance : ℕ → Bool
is_small_allowance reading_ns = nat_lt 0 reading_ns && nat_lt reading_ns 1000

abbrev pub false_words : List ℕ
false_words =
    codes "\"false_max\" is no less than the number of groups, so that nothing can be shown"

-- what is said of a span outside a capture
abbrev pub outside_words : Recorded → List ℕ
outside_words recorded = codes "its span is outside the capture, which goes from "
    ++ time_text recorded.first ++ codes " to " ++ time_text recorded.last

abbrev pub beside_words : Bool → List ℕ
beside_words given =
    if given then codes "; some hours away it would be inside: write UTC, not local time" else []

abbrev pub span_words : ClaimNumbers → Recorded → List ℕ
span_words numbers recorded = outside_words recorded
    ++ beside_words (is_hours_beside numbers.begin numbers.end recorded)

-- the line about a claim's span, if a record of the capture was seen
abbrev pub span_line : List ℕ → ClaimNumbers → Option Recorded → List ℕ
span_line name numbers None = []
span_line name numbers (Some recorded) = line_if (is_outside numbers.begin numbers.end recorded)
    name (span_words numbers recorded)

-- what is said of a claim that has a name twice
abbrev pub twice_words : List ℕ
twice_words = codes "has a name twice; its last value counts"

-- what looks like a slip of the pen in a claim of this file
abbrev pub slips : List ℕ → Bool → ClaimNumbers → Option Recorded → List ℕ
slips name name_stands_twice numbers recorded =
    line_if name_stands_twice name twice_words
    ++ line_if (nat_lt numbers.bound_ns 1000) name bound_words
    ++ line_if (nat_lt numbers.drift_ppb 1000) name drift_words
    ++ line_if (is_small_allowance numbers.reading_ns) name reading_words
    ++ line_if (nat_le numbers.groups numbers.false_max) name false_words
    ++ span_line name numbers recorded
