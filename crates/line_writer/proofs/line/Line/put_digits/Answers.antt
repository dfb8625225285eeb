use Rattle.line_writer.proofs.Common.{◌/◌, ◌%◌, ◌^◌, arith, decimal, zero_padded}
use Rattle.line_writer.proofs.Threes.{decimal_nine_more, nine_more, written}
use Rattle.line_writer.proofs.line.Line.put_digits.Goals as goal

pub put_nine_digits-requires-clause-room : goal.put_nine_digits-requires-clause-room
put_nine_digits-requires-clause-room c = grind (arith, nine_more)

pub loop-left-preserved : goal.loop-left-preserved
loop-left-preserved c =
    let l = c.loop-left in
    let more = nine_more l.left (omega arith) l.auto.left-fits.fits in
    record {
      text = written (decimal (l.left / 10 ^ 9)) (zero_padded 9 (l.left % 10 ^ 9)) l.self
          c.put_nine_digits.ensures.text (decimal_nine_more l.left (omega arith) l.auto.left-fits.fits)
          l.invariant.text;
      grown = omega arith;
    }
