use Rattle.std.proofs.Common.{arith}
use Rattle.line_writer.proofs.Digits.{last_digit, one_digit_more, digits_of_128_bits}
use Rattle.line_writer.proofs.number.put_wide.Goals as goal

pub put_byte-requires : goal.put_byte-requires
put_byte-requires c = grind (arith, digits_of_128_bits, one_digit_more)

pub loop-left-preserved : goal.loop-left-preserved
loop-left-preserved c = grind (arith, one_digit_more, last_digit)
