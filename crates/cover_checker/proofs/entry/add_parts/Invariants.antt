use Rattle.std.proofs.Common.{◌≡◌, ◌≤◌, [], length, map, drop}
use Rattle.claim_file.specs.Claim.{data_of as claim_data}
use Rattle.feasibility.specs.Members.{has}
use Rattle.cover_checker.specs.Entry.{parts_after}
use Rattle.cover_checker.proofs.entry.add_parts.Given as goal

abbrev pub invariant-loop-entry : goal.invariant-loop-entry
invariant-loop-entry g l = record {
  rest : parts_after (claim_data l.claim) (map g.X.ToExchange.shown l.exchanges) (has l.out) l.stretch []
      l.entries.items
      ≡ parts_after (claim_data l.claim) (map g.X.ToExchange.shown l.exchanges) (has l.out) l.stretch
      l.parts.items (drop l.entry-index l.entries.items);
  fits : length l.parts.items ≤ l.entry-index;
}
