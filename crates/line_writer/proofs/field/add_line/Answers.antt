use Rattle.std.proofs.Common.{◌∙◌, ap, arith, length, sym}
use Rattle.line_writer.proofs.FieldRoom.{short_room}
use Rattle.line_writer.proofs.field.add_line.Goals as goal

pub put_fields-requires : goal.put_fields-requires
put_fields-requires c =
    let few = short_room c.args.fields.now (sym c.are_short.ensures ∙ c.if-are_short.true) in
    omega (arith, few, c.if-fields-le-TOGETHER.true, c.put_byte.ensures.grows, ap length c.new-line.ensures)
