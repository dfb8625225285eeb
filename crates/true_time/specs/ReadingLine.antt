-- The text of `at` for many readings: of each what was written, the hull of the clock's error over
-- the ticks for which it stands, and the earliest and the latest true time.
use Rattle.std.specs.Prelude.{ℕ, ◌-◌, ◌^◌, nat_le, ℤ, unsigned_abs, Bool, true, false, ◌&&◌, List, [], ◌∷◌, ◌++◌, codes, length, take, if◌then◌else◌}
use Rattle.audit_text.specs.Table.{hull_low, is_plain, rows_from}
use Rattle.true_time.specs.Common.{ClaimData, Hull, Bounded, FieldData, High, Label, Low, Nothing, TimeAbove, TimeBelow, line_of, Style, Columns, Plain, ReadingData, Sample}
use Rattle.true_time.specs.TrueTime.{earliest, hull_of, latest}

-- thirty blanks, as wide as a reading may be
abbrev pub blanks : List ℕ
blanks = codes "                              "

-- what stands before a reading of so many bytes: its word, or blanks up to its column
abbrev pub front_of : Style → ℕ → List ℕ
front_of style count = if is_plain style then codes "reading " else take (30 - count) blanks

-- a reading as it is written
abbrev pub written : Style → List ℕ → List ℕ
written style text = front_of style (length text) ++ text

-- both ends are within 2^100 ticks of zero; those of a capture's samples are
abbrev pub are_near : ℤ → ℤ → Bool
are_near low high = nat_le (unsigned_abs low) (2 ^ 100) && nat_le (unsigned_abs high) (2 ^ 100)

-- the hull in ticks
abbrev pub hull_fields : ℤ → ℤ → List FieldData
hull_fields low high = Nothing ∷ Label (codes "hull") ∷ Low low ∷ High high ∷ []

-- the same, and the true times in Unix ticks if its ends are near
abbrev pub bounded_fields : Bool → ReadingData → ℤ → ℤ → List FieldData
bounded_fields true r low high =
    Nothing ∷ Label (codes "hull") ∷ Low low ∷ High high ∷ Label (codes "true") ∷
    TimeBelow (earliest r high) ∷ TimeAbove (latest r low) ∷ []
bounded_fields false r low high = hull_fields low high

-- what is known of a reading
abbrev pub time_fields : ReadingData → Hull → List FieldData
time_fields r (Bounded low high) = bounded_fields (are_near low high) r low high
time_fields r hull = Nothing ∷ Label (codes "hull") ∷ hull_low hull ∷ []

-- the style of the fields
abbrev pub row_style : Style → Style
row_style style = if is_plain style then Plain else Columns

-- the line of a reading
unfoldable pub reading_line : Style → ReadingData → Hull → List ℕ
reading_line style r hull =
    written style r.text ++ line_of (row_style style) (time_fields r hull)

-- the headings, for a person
unfoldable pub reading_heading : Style → List ℕ
reading_heading style =
    if is_plain style then []
    else codes "                       reading   low error ms  high error ms"
    ++ codes "             earliest true time               latest true time\n"

-- the line of a reading among others, whatever its number
abbrev pub reading_row : Style → List Sample → ClaimData → ℕ → ReadingData → List ℕ
reading_row style samples claim number r = reading_line style r (hull_of samples claim r)

-- the whole text
unfoldable pub readings_text : Style → List Sample → ClaimData → List ReadingData → List ℕ
readings_text style samples claim readings =
    reading_heading style ++ rows_from (reading_row style samples claim) 0 readings
