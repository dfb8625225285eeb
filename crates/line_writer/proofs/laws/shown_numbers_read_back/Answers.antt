use Rattle.std.proofs.Common.{refl, arith}
use Rattle.line_writer.proofs.Readback.{whole_back, milliseconds_back, millionths_back, low_back, high_back}
use Rattle.line_writer.proofs.laws.shown_numbers_read_back.Goals as goal

pub returns : goal.returns
returns c = record {
  whole = λ n h. whole_back n (omega arith);
  length = λ n h. record { amount = _; spelled = refl; read = milliseconds_back n (omega arith) };
  share = λ n h. record { amount = _; spelled = refl; read = millionths_back n (omega arith) };
  low = low_back;
  high = high_back;
}
