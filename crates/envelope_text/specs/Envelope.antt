-- The text of `envelope`: what is known of the clock's error in each piece of a span, and the least
-- bound that holds in all of them.
use Rattle.std.specs.Prelude.{ℕ, List, [], ◌∷◌, ◌++◌, codes, flat_map, if◌then◌else◌}
use Rattle.envelope_text.specs.Common.{FieldData, line_of, Heading, Named, Number, Second, Nanoseconds, Address, Low, High, Style, ClaimData, Sample, Part, parts_named, EnvelopeData, PieceHullData, LeastBound, Holds, NoneHolds}
use Rattle.line_writer.specs.declared.field.ColumnKind.TheVariants as kind
use Rattle.audit_text.specs.Second.{second_of}
use Rattle.audit_text.specs.Parts.{part_fields}
use Rattle.audit_text.specs.Table.{heading, hull_high, hull_low, is_plain, row_of, rows_from, word_for}
use Rattle.envelope_text.specs.LeastLine.{least_line}
use Rattle.audit_text.specs.SampleLine.{server_of}
use Rattle.envelope_text.specs.declared.envelope.EnvelopeOptions.{EnvelopeOptions}
use Rattle.envelope_text.specs.declared.least_line.LeastLine.{LeastLine}

-- the columns, and one behind them for what servers say
abbrev pub piece_columns : EnvelopeOptions → List FieldData
piece_columns asked =
    Heading (codes "piece") kind.Number ∷ Heading (codes "begin") kind.Second ∷
    Heading (codes "end") kind.Second ∷ Heading (codes "low error ms") kind.End ∷
    Heading (codes "high error ms") kind.End ∷
    (if asked.servers then Heading (codes "server") kind.Name ∷ [] else [])

-- a piece's number, the Unix seconds of its begin and its end, and a range of the error with these
-- ends
abbrev pub fields_with : ℕ → PieceHullData → FieldData → FieldData → List FieldData
fields_with number piece low high =
    Number number ∷ Second (second_of piece.stretch.begin) ∷ Second (second_of piece.stretch.end) ∷
    low ∷ high ∷ []

-- what is known of the error in a piece
abbrev pub piece_fields : ℕ → PieceHullData → List FieldData
piece_fields number piece =
    fields_with number piece (hull_low piece.hull) (hull_high piece.hull)

unfoldable pub piece_line : Style → ℕ → PieceHullData → List ℕ
piece_line style number piece = row_of style (piece_fields number piece)

-- what a server says about the error in the piece of this number, for a program
abbrev pub server_fields : ClaimData → ℕ → Part → List FieldData
server_fields claim number part = Number number ∷ part_fields claim part

-- the same for a person, in the columns of the piece
abbrev pub server_columns : ClaimData → ℕ → PieceHullData → Part → List FieldData
server_columns claim number piece part =
    fields_with number piece (Low part.interval.lo) (High part.interval.hi) ++
    Address (server_of claim part.server) ∷ []

unfoldable pub server_line : Style → ClaimData → ℕ → PieceHullData → Part → List ℕ
server_line style claim number piece part =
    if is_plain style then row_of style (server_fields claim number part)
    else row_of style (server_columns claim number piece part)

-- the lines of the servers that have a sample, in their order
abbrev pub server_lines : Style → List Sample → ClaimData → ℕ → PieceHullData → List ℕ
server_lines style samples claim number piece =
    flat_map (server_line style claim number piece)
    (parts_named samples claim piece.stretch piece.entries)

-- the lines of a piece, with those of its servers if they are asked for
abbrev pub piece_lines : Style → EnvelopeOptions → List Sample → ClaimData → ℕ → PieceHullData
    → List ℕ
piece_lines style asked samples claim number piece =
    (if asked.servers then server_lines style samples claim number piece else []) ++
    piece_line style number piece

-- the line behind them: the least bound in nanoseconds, and the first piece that needs it; or the
-- first piece in which no bound holds
unfoldable pub bound_line : Style → LeastBound → List ℕ
bound_line style (Holds n piece) =
    line_of style (
    word_for style (codes "bound_ns") (codes "bound") ∷ Nanoseconds n ∷
    Named (codes "piece") piece ∷ [])
bound_line style (NoneHolds piece) =
    line_of style (
    word_for style (codes "bound_ns none") (codes "bound none") ∷
    Named (codes "piece") piece ∷ [])

-- the whole text
unfoldable pub envelope_text :
    Style → EnvelopeOptions → List Sample → ClaimData → EnvelopeData → LeastLine → List ℕ
envelope_text style asked samples claim envelope least =
    heading style (piece_columns asked) ++
    rows_from (piece_lines style asked samples claim) 0 envelope.pieces ++
    bound_line style envelope.least ++ least_line style least
