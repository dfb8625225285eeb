use Rattle.line_writer.proofs.Common.{◌∙◌, ◌++◌, ◌/◌, ◌%◌, ap, List, ℕ, arith, sym, zero_padded}
use Rattle.line_writer.proofs.Threes.{joined, padded_more, padded_three}
use Rattle.line_writer.proofs.line.Line.put_six_digits.Goals as goal

pub returns-clause-text : goal.returns-clause-text
returns-clause-text c =
    joined (zero_padded 3 (c.args.n / 1000)) (zero_padded 3 (c.args.n % 1000)) c.args.self.now
    c.put_three_digits-2.ensures.text c.put_three_digits.ensures.text (
    padded_more 6 c.args.n (omega arith) (omega arith)
    ∙ ap (λ (l : List ℕ). zero_padded 3 (c.args.n / 1000) ++ l) (sym (padded_three (c.args.n % 1000) (omega arith))))
