-- A line as a list of fields, in the order in which they are read.
use Rattle.std.specs.Prelude.{ℕ, ℤ, ◌+◌, ◌-◌, List, [], ◌∷◌, ◌++◌, codes, length, flat_map, max, replicate, nat_le, Bool, true, false, if◌then◌else◌}
use Rattle.std.specs.Fmt.{decimal, signed_decimal}
use Rattle.hex.specs.Hex.{encode_lower}
use Rattle.line_writer.specs.Text.{address, is_named, millionths, name_of}
use Rattle.line_writer.specs.Date.{time_text}
use Rattle.line_writer.specs.Millisecond.{milliseconds, nanosecond_above, nanosecond_below, signed_milliseconds}
use Rattle.line_writer.specs.Moment.{moment_above, moment_below}
use Rattle.line_writer.specs.declared.field.Field.{Field}
use Rattle.line_writer.specs.declared.field.Field.TheVariants as the
use Rattle.line_writer.specs.declared.field.ColumnKind.{ColumnKind}
use Rattle.line_writer.specs.declared.field.ColumnKind.TheVariants as kind
use Rattle.line_writer.specs.declared.field.Style.{Style}
use Rattle.line_writer.specs.declared.field.Style.TheVariants.{Plain, Human, Columns}

-- what a field says
pub data FieldData : Type 0 where
  -- a word, or several
  Word : List ℕ → FieldData
  -- a word that says what the next fields are
  Label : List ℕ → FieldData
  -- a number that counts or names, and one with what it counts or names
  Number : ℕ → FieldData
  Named : List ℕ → ℕ → FieldData
  -- a time in whole Unix seconds
  Second : ℕ → FieldData
  -- a tick of 2^-32 s of the Unix epoch, rounded down for a person, and one that is rounded up
  TimeBelow : ℤ → FieldData
  TimeAbove : ℤ → FieldData
  -- a length of time in nanoseconds, and parts of 10^9
  Nanoseconds : ℕ → FieldData
  Billionths : ℕ → FieldData
  -- the low and the high end of a range of ticks of 2^-32 s
  Low : ℤ → FieldData
  High : ℤ → FieldData
  -- a word in the place of the low end of a range, and an end that isn't there
  Instead : List ℕ → FieldData
  Blank : FieldData
  -- an IPv4 address, and a reference identifier: four bytes each
  Address : List ℕ → FieldData
  Reference : List ℕ → FieldData
  -- the heading of a column, and what stands in the column
  Heading : List ℕ → ColumnKind → FieldData
  -- no field stands here
  Nothing : FieldData

-- the same of a value of the program
abbrev pub field_data : Field → FieldData
field_data (the.Word word) = Word word.now
field_data (the.Label word) = Label word.now
field_data (the.Number n) = Number n
field_data (the.Named name n) = Named name.now n
field_data (the.Second n) = Second n
field_data (the.TimeBelow tick) = TimeBelow tick
field_data (the.TimeAbove tick) = TimeAbove tick
field_data (the.Nanoseconds n) = Nanoseconds n
field_data (the.Billionths n) = Billionths n
field_data (the.Low tick) = Low tick
field_data (the.High tick) = High tick
field_data (the.Instead word) = Instead word.now
field_data (the.Address bytes) = Address bytes
field_data (the.Reference bytes) = Reference bytes
field_data the.Blank = Blank
field_data (the.Heading word kind) = Heading word.now kind
field_data the.Nothing = Nothing

-- the text of a field for a program
abbrev pub plain_text : FieldData → List ℕ
plain_text (Word word) = word
plain_text (Label word) = word
plain_text (Number n) = decimal n
plain_text (Named name n) = name ++ codes " " ++ decimal n
plain_text (Second n) = decimal n
plain_text (TimeBelow tick) = signed_decimal tick
plain_text (TimeAbove tick) = signed_decimal tick
plain_text (Nanoseconds n) = decimal n
plain_text (Billionths n) = decimal n
plain_text (Low tick) = signed_decimal tick
plain_text (High tick) = signed_decimal tick
plain_text (Instead word) = word
plain_text (Address bytes) = address bytes
plain_text (Reference bytes) = encode_lower bytes
plain_text (Heading word kind) = word
plain_text Blank = []
plain_text Nothing = []

-- a reference identifier by its name, or else the address of a server
abbrev pub reference_text : List ℕ → List ℕ
reference_text bytes = if is_named bytes then name_of bytes else address bytes

-- the text of a field for a person: times as dates, ends of ranges in milliseconds, lengths of time
-- and parts of 10^6 with their unit
abbrev pub human_text : FieldData → List ℕ
human_text (Second n) = time_text n
human_text (TimeBelow tick) = moment_below tick
human_text (TimeAbove tick) = moment_above tick
human_text (Nanoseconds n) = milliseconds n ++ codes " ms"
human_text (Billionths n) = millionths n ++ codes " ppm"
human_text (Low tick) = signed_milliseconds (nanosecond_below tick)
human_text (High tick) = signed_milliseconds (nanosecond_above tick)
human_text (Reference bytes) = reference_text bytes
human_text field = plain_text field

-- how wide a column is, by what stands in it
abbrev pub width : ColumnKind → ℕ
width kind.Number = 8
width kind.Second = 20
width kind.End = 14
width kind.Name = 15

-- how wide the column of a field is
abbrev pub width_of : FieldData → ℕ
width_of (Heading word kind) = width kind
width_of (Number n) = width kind.Number
width_of (Second n) = width kind.Second
width_of (Low tick) = width kind.End
width_of (High tick) = width kind.End
width_of (Instead word) = width kind.End
width_of Blank = width kind.End
width_of (Address bytes) = width kind.Name
width_of (Word word) = width kind.Name
width_of _ = 0

-- a text in a column of this width, with blanks before it
abbrev pub in_column : ℕ → List ℕ → List ℕ
in_column width text = replicate (width - length text) 32 ++ text

-- the text of a field
abbrev pub text_of : Style → FieldData → List ℕ
text_of Plain field = plain_text field
text_of Human field = human_text field
text_of Columns field = in_column (width_of field) (human_text field)

-- a field that leaves no trace after another: in columns a label, since their headings say what it
-- would, and elsewhere an end that isn't there
abbrev pub is_absent : Style → FieldData → Bool
is_absent style Nothing = true
is_absent Columns (Label word) = true
is_absent Plain Blank = true
is_absent Human Blank = true
is_absent style field = false

-- a field after another: a blank and its text, if it stands there
abbrev pub next_text : Style → FieldData → List ℕ
next_text style field = if is_absent style field then [] else codes " " ++ text_of style field

-- the fields after the first
abbrev pub rest_text : Style → List FieldData → List ℕ
rest_text style fields = flat_map (next_text style) fields

-- the fields' texts, joined by blanks
abbrev pub fields_text : Style → List FieldData → List ℕ
fields_text style [] = []
fields_text style (field ∷ fields) = text_of style field ++ rest_text style fields

-- the same with a line feed
abbrev pub line_of : Style → List FieldData → List ℕ
line_of style fields = fields_text style fields ++ codes "\n"

-- how many bytes a field takes at most, with a blank before it
abbrev pub most_of : FieldData → ℕ
most_of (Word word) = 1 + max 15 (length word)
most_of (Heading word kind) = 1 + max 20 (length word)
most_of (Label word) = 1 + length word
most_of (Instead word) = 1 + max 15 (length word)
most_of (Named name n) = 22 + length name
most_of field = 51

-- how many these fields take together
abbrev pub room_of : List FieldData → ℕ
room_of [] = 0
room_of (field ∷ fields) = most_of field + room_of fields

-- a field of a few words at most
abbrev pub is_short : FieldData → Bool
is_short (Word word) = nat_le (length word) 100
is_short (Heading word kind) = nat_le (length word) 100
is_short (Label word) = nat_le (length word) 100
is_short (Instead word) = nat_le (length word) 100
is_short (Named name n) = nat_le (length name) 79
is_short field = true
