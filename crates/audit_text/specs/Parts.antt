-- The text of `at`: what each server says about the clock's error at one moment, and the hull.
use Rattle.std.specs.Prelude.{ℕ, List, [], ◌∷◌, ◌++◌, codes, flat_map}
use Rattle.audit_text.specs.Common.{FieldData, Heading, Word, Address, Low, High, Name, End, Style, ClaimData, Part, Hull}
use Rattle.audit_text.specs.SampleLine.{server_of}
use Rattle.audit_text.specs.Table.{heading, hull_high, hull_low, row_of}

-- the columns
abbrev pub part_columns : List FieldData
part_columns =
    Heading (codes "server") Name ∷ Heading (codes "low error ms") End ∷
    Heading (codes "high error ms") End ∷ []

-- a server's address and its interval's ends, in ticks
abbrev pub part_fields : ClaimData → Part → List FieldData
part_fields claim part =
    Address (server_of claim part.server) ∷ Low part.interval.lo ∷ High part.interval.hi ∷ []

unfoldable pub part_row : Style → ClaimData → Part → List ℕ
part_row style claim part = row_of style (part_fields claim part)

-- the hull, in the columns of the intervals
abbrev pub hull_fields : Hull → List FieldData
hull_fields hull = Word (codes "hull") ∷ hull_low hull ∷ hull_high hull ∷ []

-- the text for what these servers say
unfoldable pub parts_text : Style → ClaimData → List Part → Hull → List ℕ
parts_text style claim parts hull =
    heading style part_columns ++ flat_map (part_row style claim) parts ++
    row_of style (hull_fields hull)
