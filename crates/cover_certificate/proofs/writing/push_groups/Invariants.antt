use Rattle.cover_certificate.proofs.Common.{◌≡◌, ◌<◌, ℕ, ◌++◌, map, take, get_or, join_with_byte, ◌^◌, comma, decimal}
use Rattle.cover_certificate.proofs.writing.push_groups.Given as goal

abbrev pub invariant-loop-index : goal.invariant-loop-index
invariant-loop-index l = record {
  written : l.text.items
      ≡ l.fn.text.items ++ join_with_byte comma (map decimal (take l.index l.groups));
  named : (k : ℕ) (d : ℕ) → k < l.index → get_or l.groups k d < 2 ^ 8;
}
