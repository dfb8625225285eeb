use Rattle.line_writer.proofs.Common.{◌≡◌, ◌+◌, ◌-◌, get_or, ◌∙◌, arith, refl, drop_all}
use Rattle.line_writer.proofs.Pairs.{pair_at, encode_at, encode_none}
use Rattle.line_writer.proofs.line.Line.put_hexadecimal.Goals as goal

pub loop-left-init : goal.loop-left-init
loop-left-init c = grind (arith, drop_all, encode_none)

pub loop-left-preserved : goal.loop-left-preserved
loop-left-preserved c =
    let k = c.loop-left.left - 1 in
    let next : k + 1 ≡ c.loop-left.left = omega arith in
    let pair = pair_at (get_or c.args.bytes.now k 0) (c.type_inv.bytes k).fits in
    record {
      within = omega arith;
      text = c.put_pair.ensures.text ∙ rw (
        c.loop-left.invariant.text,
        c.from-pair.ensures,
        pair.0,
        pair.1,
        encode_at c.args.bytes.now k (omega arith),
        next,
      ) refl;
      grown = omega arith;
    }
