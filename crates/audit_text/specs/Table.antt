-- Tables: columns with their headings for a person, and rows that are the same for a program. And
-- words that a person sees in the place of others.
use Rattle.std.specs.Prelude.{◌≡◌, ℕ, ◌+◌, List, [], ◌∷◌, ◌++◌, Bool, true, false, codes, if◌then◌else◌, filter, length, map, not, reverse, take}
use Rattle.audit_text.specs.Common.{FieldData, line_of, is_absent, width_of, Word, Nothing, Low, High, Instead, Blank, Style, Plain, Columns, Hull, Unbounded, Empty, Bounded}

-- it is for programs
abbrev pub is_plain : Style → Bool
is_plain Plain = true
is_plain style = false

-- a word for programs, or another for a person
abbrev pub word_for : Style → List ℕ → List ℕ → FieldData
word_for style program person = Word (if is_plain style then program else person)

-- a field for a person alone
abbrev pub for_person : Style → FieldData → FieldData
for_person style field = if is_plain style then Nothing else field

-- the line over a table, of its columns' headings: none for programs
unfoldable pub heading : Style → List FieldData → List ℕ
heading style columns = if is_plain style then [] else line_of Columns columns

-- the fields from the first that isn't blank on
abbrev pub from_field : List FieldData → List FieldData
from_field [] = []
from_field (Blank ∷ fields) = from_field fields
from_field fields = fields

-- a row: blank columns behind its last field leave no trace
unfoldable pub row_of : Style → List FieldData → List ℕ
row_of style fields =
    line_of (if is_plain style then Plain else Columns) (reverse (from_field (reverse fields)))

-- how wide the columns are that these fields stand in
abbrev pub widths : List FieldData → List ℕ
widths fields = map width_of (filter (λ field. not (is_absent Columns field)) fields)

-- A row stands under these headings: its fields are as wide as they are, from the first on, so that
-- each text ends where a heading does.
abbrev pub IsUnder : List FieldData → List FieldData → Type 0
IsUnder columns fields = widths fields ≡ take (length (widths fields)) (widths columns)

-- the rows of these, the first with this number
abbrev pub rows_from : {X : Type 0} → (ℕ → X → List ℕ) → ℕ → List X → List ℕ
rows_from row number [] = []
rows_from row number (x ∷ xs) = row number x ++ rows_from row (number + 1) xs

-- what is known of the error, in ticks: its low end, or a word
abbrev pub hull_low : Hull → FieldData
hull_low Unbounded = Instead (codes "unbounded")
hull_low Empty = Instead (codes "empty")
hull_low (Bounded lo hi) = Low lo

-- its high end, or a blank column
abbrev pub hull_high : Hull → FieldData
hull_high (Bounded lo hi) = High hi
hull_high _ = Blank
