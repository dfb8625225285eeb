use Rattle.audit_text.proofs.Common.{◌≡◌, ◌++◌, map, data_of, silent_to}
use Rattle.audit_text.proofs.silent_lines.add_silents.Given as goal

abbrev pub invariant-loop-number : goal.invariant-loop-number
invariant-loop-number g l =
    l.text.items ≡ l.initial.text.items
    ++ silent_to (data_of l.claim) (map g.X.ToExchange.shown l.exchanges) l.number
