use Rattle.claim_file.proofs.Common.{◌≡◌, ◌++◌, drop, map, option_map, items_view, texts_of}
use Rattle.claim_file.proofs.elements.texts.Given as goal

abbrev pub invariant-loop-item : goal.invariant-loop-item
invariant-loop-item l =
    texts_of (items_view l.items)
    ≡ option_map (λ ts. map (λ t. t.now) l.found.items ++ ts) (texts_of (items_view (drop l.item-index l.items)))
