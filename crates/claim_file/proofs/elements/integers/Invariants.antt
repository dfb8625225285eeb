use Rattle.claim_file.proofs.Common.{◌≡◌, ◌++◌, drop, option_map, items_view, all_of}
use Rattle.json_text.specs.Member.{unsigned_of}
use Rattle.claim_file.proofs.elements.integers.Given as goal

abbrev pub invariant-loop-item : goal.invariant-loop-item
invariant-loop-item l =
    all_of unsigned_of (items_view l.items)
    ≡ option_map (λ ns. l.found.items ++ ns) (all_of unsigned_of (items_view (drop l.item-index l.items)))
