-- The text of true time, behind what the servers say of one reading.
use Rattle.std.specs.Prelude.{ℤ, Bool, true, false, List, [], ◌∷◌, ◌++◌, codes, if◌then◌else◌, ℕ}
use Rattle.audit_text.specs.Table.{is_plain}
use Rattle.true_time.specs.Common.{Hull, Bounded, FieldData, TimeAbove, TimeBelow, line_of, Style, ReadingData}
use Rattle.true_time.specs.ReadingLine.{are_near, row_style}
use Rattle.true_time.specs.TrueTime.{earliest, latest}

-- what stands before the two times: a word, or for a person the line of their headings
abbrev pub true_front : Style → List ℕ
true_front style =
    if is_plain style then codes "true "
    else codes "            earliest true time               latest true time\n"

-- the two, in Unix ticks
abbrev pub true_fields : ReadingData → ℤ → ℤ → List FieldData
true_fields r low high = TimeBelow (earliest r high) ∷ TimeAbove (latest r low) ∷ []

-- their line
unfoldable pub times_line : Style → ReadingData → ℤ → ℤ → List ℕ
times_line style r low high = line_of style (true_fields r low high)

-- the text of a reading whose hull has these ends
unfoldable pub true_line : Style → ReadingData → ℤ → ℤ → List ℕ
true_line style r low high = true_front style ++ times_line (row_style style) r low high

-- the text of a reading: nothing, if its hull has no ends or they aren't near
abbrev pub true_text : Style → ReadingData → Hull → List ℕ
true_text style r (Bounded low high) =
    if are_near low high then true_line style r low high else []
true_text style r hull = []
