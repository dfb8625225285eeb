use Rattle.std.proofs.Common.{refl, length, ◌-◌}
use Rattle.line_writer.proofs.Readback.{name_back}
use Rattle.line_writer.proofs.laws.shown_bytes_read_back.Goals as goal

pub returns : goal.returns
returns c = record {
  address = λ a b c d ha hb hc hd. record {
    a = a;
    b = b;
    c = c;
    d = d;
    fit = (ha, hb, hc, hd);
    value = refl;
    spelled = refl;
  };
  name = λ name some few printable. name_back name (4 - length name) some printable;
}
