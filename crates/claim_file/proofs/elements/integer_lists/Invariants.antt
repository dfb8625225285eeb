use Rattle.claim_file.proofs.Common.{◌≡◌, ◌++◌, drop, map, option_map, items_view, all_of, numbers_of}
use Rattle.claim_file.proofs.elements.integer_lists.Given as goal

abbrev pub invariant-loop-item : goal.invariant-loop-item
invariant-loop-item l =
    all_of numbers_of (items_view l.items)
    ≡ option_map (λ ns. map (λ list. list.items) l.found.items ++ ns)
    (all_of numbers_of (items_view (drop l.item-index l.items)))
