-- The line of `samples` for one sample.
use Rattle.std.specs.Prelude.{ℕ, List, [], ◌∷◌, codes, slice_get, unwrap_or}
use Rattle.audit_text.specs.Common.{FieldData, Heading, Number, Address, Label, Low, High, Style, ClaimData, Exchange, offset_from, offset_to, delay_from, delay_to, least_error, greatest_error}
use Rattle.line_writer.specs.declared.field.ColumnKind.TheVariants as kind
use Rattle.audit_text.specs.Table.{row_of}

-- the address of the server with this number
abbrev pub server_of : ClaimData → ℕ → List ℕ
server_of claim number = unwrap_or (slice_get claim.servers number) []

-- the columns of samples
abbrev pub sample_columns : List FieldData
sample_columns =
    Heading (codes "sample") kind.Number ∷ Heading (codes "server") kind.Name ∷
    Heading (codes "request") kind.Number ∷ Heading (codes "reply") kind.Number ∷
    Heading (codes "low offset ms") kind.End ∷ Heading (codes "high offset ms") kind.End ∷
    Heading (codes "low delay ms") kind.End ∷ Heading (codes "high delay ms") kind.End ∷
    Heading (codes "low error ms") kind.End ∷ Heading (codes "high error ms") kind.End ∷ []

-- which sample, of which server, from which two records; the offset and the delay, intervals of
-- ticks; and the least and the greatest error, in ticks
abbrev pub sample_fields : ClaimData → ℕ → Exchange → List FieldData
sample_fields claim number x =
    Number number ∷ Address (server_of claim x.server) ∷ Number x.request ∷ Number x.reply ∷
    Label (codes "offset") ∷ Low (offset_from x claim.reading) ∷ High (offset_to x claim.reading) ∷
    Label (codes "delay") ∷ Low (delay_from x claim.reading) ∷ High (delay_to x claim.reading) ∷
    Label (codes "low") ∷ Low (least_error x claim.reading) ∷
    Label (codes "high") ∷ High (greatest_error x claim.reading) ∷ []

unfoldable pub sample_line : Style → ClaimData → ℕ → Exchange → List ℕ
sample_line style claim number x = row_of style (sample_fields claim number x)
