use Rattle.line_writer.proofs.Common.{◌≡◌, ◌++◌, map, take, field_data, rest_text}
use Rattle.line_writer.proofs.field.add_line.Given as goal

abbrev pub invariant-loop-field : goal.invariant-loop-field
invariant-loop-field l =
    l.text.items ≡ l.initial.text.items ++ rest_text l.style (map field_data (take l.field-index l.rest))
