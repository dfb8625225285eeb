use Rattle.audit_text.proofs.Common.{◌∙◌, append-nil, refl, sym, silent_line}
use Rattle.audit_text.proofs.Sources.{source_shown}
use Rattle.audit_text.proofs.silent_lines.add_silent.Goals as goal

pub returns-then-is_source : goal.returns-then-is_source
unfolding silent_line
returns-then-is_source g c =
    let heard = sym (source_shown g.X.ToExchange.shown c.args.number c.args.exchanges.now)
    ∙ sym c.is_source.ensures ∙ c.if-is_source.true in
    rw (heard, append-nil) refl

pub returns : goal.returns
unfolding silent_line
returns g c =
    let heard = sym (source_shown g.X.ToExchange.shown c.args.number c.args.exchanges.now)
    ∙ sym c.is_source.ensures ∙ c.if-is_source.false in
    rw heard (rw c.server_of.ensures at c.add_line.ensures)
