use Rattle.cover_certificate.proofs.Common.{◌≡◌, ◌<◌, ℕ, ◌++◌, map, take, get_or, join_with_byte, NamesSamples, comma, entry_text}
use Rattle.cover_certificate.proofs.pieces_writing.push_entries.Given as goal

abbrev pub invariant-loop-index : goal.invariant-loop-index
invariant-loop-index l = record {
  written : l.text.items
      ≡ l.fn.text.items ++ join_with_byte comma (map entry_text (take l.index l.entries));
  named : (k : ℕ) (d : ℕ × ℕ) → k < l.index → NamesSamples (get_or l.entries k d);
}
