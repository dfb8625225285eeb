use Rattle.audit_text.proofs.Common.{◌≡◌, ◌++◌, map, take, flat_map, data_of}
use Rattle.audit_text.specs.CoverLines.{named_line}
use Rattle.audit_text.proofs.cover_lines.add_all_named.Given as goal

abbrev pub invariant-loop-pair : goal.invariant-loop-pair
invariant-loop-pair g l =
    l.text.items ≡ l.initial.text.items ++ flat_map
    (named_line l.style (data_of l.claim) (map g.X.ToExchange.shown l.exchanges)) (take l.pair-index l.conflicts)
