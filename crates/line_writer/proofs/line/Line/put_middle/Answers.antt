use Rattle.line_writer.proofs.Common.{◌∙◌, ◌++◌, ◌/◌, ◌%◌, ℕ, List, ap, sym, arith, decimal, zero_padded}
use Rattle.line_writer.proofs.Threes.{decimal_more, padded_three, three_more, written}
use Rattle.line_writer.proofs.line.Line.put_middle.Goals as goal

pub put_three_digits-requires-clause-room : goal.put_three_digits-requires-clause-room
put_three_digits-requires-clause-room c = grind (arith, three_more)

pub loop-left-preserved : goal.loop-left-preserved
loop-left-preserved c =
    let l = c.loop-left in
    let more = three_more l.left c.loop-left-test.true (omega arith) in
    record {
      small = omega arith;
      text = written (decimal (l.left / 1000)) (zero_padded 3 (l.left % 1000)) l.self c.put_three_digits.ensures.text
          (decimal_more l.left c.loop-left-test.true (omega arith)
          ∙ ap (λ (p : List ℕ). decimal (l.left / 1000) ++ p) (sym (padded_three (l.left % 1000) (omega arith))))
          l.invariant.text;
      grown = omega arith;
    }
