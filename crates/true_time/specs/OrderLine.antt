-- The text of an order: for a person when the two readings were, and then which was first.
use Rattle.std.specs.Prelude.{ℕ, List, [], ◌∷◌, ◌++◌, codes, if◌then◌else◌}
use Rattle.line_writer.specs.Field.{Nanoseconds, Word}
use Rattle.line_writer.specs.Millisecond.{longer, shorter}
use Rattle.line_writer.specs.declared.field.Style.TheVariants.{Human}
use Rattle.audit_text.specs.Table.{is_plain}
use Rattle.true_time.specs.Common.{FieldData, Nothing, TimeAbove, TimeBelow, line_of, Style, Plain}
use Rattle.true_time.specs.declared.order.Order.{Order}
use Rattle.true_time.specs.declared.order.Order.TheVariants.{FirstBefore, Never, Open, SecondBefore, Unknown}
use Rattle.true_time.specs.declared.when.When.{When}
use Rattle.true_time.specs.declared.when.When.TheVariants as when

-- the style of the last line
abbrev pub line_style : Style → Style
line_style style = if is_plain style then Plain else Human

-- a program sees nanoseconds, a person milliseconds with their unit
abbrev pub unit : Style → FieldData
unit style = if is_plain style then Word (codes "ns") else Nothing

-- one is before the other, by at least so many ticks
abbrev pub before_line : Style → List ℕ → ℕ → List ℕ
before_line style words ticks =
    line_of (line_style style) (Word words ∷ Nanoseconds (shorter ticks) ∷ unit style ∷ [])

-- neither is known to be, and so many ticks are the most
abbrev pub open_fields : Style → ℕ → ℕ → List FieldData
open_fields style earlier later =
    Word (codes "open: first may be") ∷ Nanoseconds (longer earlier) ∷ unit style ∷
    Word (codes "earlier or") ∷ Nanoseconds (longer later) ∷ unit style ∷
    Word (codes "later") ∷ []

-- which was first
abbrev pub order_line : Style → Order → List ℕ
order_line style (FirstBefore ticks) =
    before_line style (codes "first before second by at least") ticks
order_line style (SecondBefore ticks) =
    before_line style (codes "second before first by at least") ticks
order_line style (Open earlier later) =
    line_of (line_style style) (open_fields style earlier later)
order_line style Unknown = line_of (line_style style) (Word (codes "open") ∷ [])
order_line style Never = line_of (line_style style) (Word (codes "nothing fits") ∷ [])

-- when a reading was, behind its name of six letters
abbrev pub when_line : List ℕ → When → List ℕ
when_line name (when.Between first last) =
    line_of Human (Word name ∷ TimeBelow first ∷ TimeAbove last ∷ [])
when_line name when.Whenever = line_of Human (Word name ∷ Word (codes "unbounded") ∷ [])
when_line name when.Never = line_of Human (Word name ∷ Word (codes "empty") ∷ [])

-- the headings of the two columns
abbrev pub times_heading : List ℕ
times_heading = codes "                   earliest true time               latest true time\n"

-- when each was
abbrev pub each_line : When → When → List ℕ
each_line first second = when_line (codes "first ") first ++ when_line (codes "second") second

-- the same under the headings
unfoldable pub both_lines : When → When → List ℕ
both_lines first second = times_heading ++ each_line first second

-- the lines for a person alone
abbrev pub times_text : Style → When → When → List ℕ
times_text style first second = if is_plain style then [] else both_lines first second

-- the whole text
unfoldable pub order_text : Style → When → When → Order → List ℕ
order_text style first second order = times_text style first second ++ order_line style order
