use Rattle.audit_text.proofs.Common.{◌≡◌, ◌++◌, drop, map, exchange_shown, data_of, sample_line, rows_from}
use Rattle.audit_text.proofs.samples.add_samples.Given as goal

abbrev pub invariant-loop-number : goal.invariant-loop-number
invariant-loop-number l =
    let row = sample_line l.style (data_of l.claim) in
    l.text.items ++ rows_from row l.number (map exchange_shown (drop l.number l.exchanges))
    ≡ l.initial.text.items ++ rows_from row 0 (map exchange_shown l.exchanges)
