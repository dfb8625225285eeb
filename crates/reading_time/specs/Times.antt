-- The readings of a file, one a line.
--
-- A line ends with a line feed, which the last one may lack. A file has at most 1,000,000. It is
-- refused for its first line that isn't a reading, by the line's number, or for the first beyond
-- that many.
use Rattle.std.specs.Prelude.{ℕ, ◌+◌, ◌==◌, nat_lt, not, Bool, All, map, drop, take, List, [], ◌∷◌, ◌++◌, Option, Some, None, Result, Ok, Err, if◌then◌else◌}
use Rattle.std.specs.List.{prefix_len}
use Rattle.reading_time.specs.Reading.{IsLawfulReading, ReadingData, reading_data, reading_of}
use Rattle.reading_time.specs.declared.times.Times.{Times}
use Rattle.reading_time.specs.declared.fault.TimesFault.{TimesFault}
use Rattle.reading_time.specs.declared.fault.TimesFault.TheVariants.{Time, TooMany}

-- a byte of a line
abbrev pub is_no_feed : ℕ → Bool
is_no_feed byte = not (byte == 10)

-- the last line, if it has no line feed
abbrev pub last_line : List ℕ → List (List ℕ)
last_line [] = []
last_line (byte ∷ line) = (byte ∷ line) ∷ []

-- the lines of a text that stands behind the front of the first one
abbrev pub lines_from : List ℕ → List ℕ → List (List ℕ)
lines_from front [] = last_line front
lines_from front (byte ∷ text) =
    if byte == 10 then front ∷ lines_from [] text else lines_from (front ++ byte ∷ []) text

-- the first line of a text, and what stands behind its line feed
abbrev pub first_line : List ℕ → List ℕ
first_line text = take (prefix_len is_no_feed text) text

abbrev pub rest_of : List ℕ → List ℕ
rest_of text = drop 1 (drop (prefix_len is_no_feed text) text)

-- the most readings of a file
abbrev pub most_readings : ℕ
most_readings = 1000000

-- a reading, if the line of this number says one, before those of the lines behind it
abbrev pub read_before : ℕ → Option ReadingData → Result (List ReadingData) TimesFault →
    Result (List ReadingData) TimesFault
read_before number None rest = Err (Time number)
read_before number (Some reading) (Ok readings) = Ok (reading ∷ readings)
read_before number (Some reading) (Err fault) = Err fault

-- what lines say, the first of which has this number
abbrev pub readings_from : ℕ → List (List ℕ) → Result (List ReadingData) TimesFault
readings_from number [] = Ok []
readings_from number (line ∷ lines) =
    if nat_lt most_readings number then Err TooMany
    else read_before number (reading_of line) (readings_from (number + 1) lines)

-- the readings that were read
abbrev pub times_data : Times → List ReadingData
times_data times = map reading_data times.readings.items

-- each keeps its limits
abbrev pub AreLawfulTimes : Times → Type 0
AreLawfulTimes times = All (λ r. IsLawfulReading (reading_data r)) times.readings.items

-- what the text of a file says
abbrev pub times_of : List ℕ → Result (List ReadingData) TimesFault
times_of text = readings_from 1 (lines_from [] text)
