use Rattle.audit_text.proofs.Common.{◌≡◌, ◌++◌, [], ◌∷◌, codes, sym, IfOk, line_of, Word, Named, pieces_line}
use Rattle.audit_text.proofs.verdict_line.add_of_pieces.Goals as goal

pub returns-in-No : goal.returns-in-No
unfolding pieces_line
returns-in-No c =
    let told : IfOk c.add_line-in-No.result (λ _. c.add_line-in-No.new.text.items ≡
    c.args.text.now.items ++ line_of c.args.style (
    Word (codes "verdict no") ∷ Named (codes "piece") c.from.result ∷ Word c.why_word.result.now ∷ [])) =
    c.add_line-in-No.ensures in
    rw (c.in-No.is, sym c.from.ensures, sym c.why_word.ensures) told
