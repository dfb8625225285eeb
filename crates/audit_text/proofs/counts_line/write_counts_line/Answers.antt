use Rattle.audit_text.proofs.Common.{◌≡◌, length, refl, rules, length-map, exchange_shown}
use Rattle.audit_text.specs.CountsLine.{counts_line}
use Rattle.audit_text.proofs.counts_line.write_counts_line.Goals as goal

pub returns-clause-text : goal.returns-clause-text
unfolding counts_line
returns-clause-text c =
    let exchanges = c.args.held.now.exchanges.items in
    let samples : c.len.result ≡ length exchanges = search rules in
    rw (c.put_fields.ensures.text, c.from.ensures, c.from-2.ensures, c.from-3.ensures, samples, c.from-4.ensures)
    (rw (c.from-5.ensures, c.from-6.ensures, c.from-7.ensures, c.from-8.ensures, c.from-9.ensures, c.from-10.ensures)
    (rw (c.from-11.ensures, c.put_byte.ensures.text, c.clear.ensures, length-map exchanges exchange_shown) refl))
