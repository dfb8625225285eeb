-- Ends that are sorted by their derived order are in order.
use Rattle.intersection.proofs.Common.{◌≡◌, ℤ, false, List, Ordering, get_or, arith, IsSorted, ints, sorted_far, ranks_by, MayPrecede, IsInOrder, End, Side, Low, High}
use Rattle.std.specs.Ordering.{is_lt}
use Rattle.intersection.specs.contracts.ends.EndOrd.TheImpl as end_ord
use Rattle.intersection.specs.contracts.ends.EndOrd.TheImpl.Laws.{total-law}

-- what the derived `cmp` answers
abbrev pub end_cmp : End → End → Ordering
end_cmp = (end_ord.ghosts).cmp

may_precede_at : (a b : ℤ) (s t : Side)
    → is_lt (end_cmp (record { at = b; side = t }) (record { at = a; side = s })) ≡ false
    → MayPrecede (record { at = a; side = s }) (record { at = b; side = t })
may_precede_at a b Low Low h = (grind (arith, ints), λ x y. cc)
may_precede_at a b Low High h = (grind (arith, ints), λ x y. cc)
may_precede_at a b High Low h = (grind (arith, ints), λ x y. grind (arith, ints))
may_precede_at a b High High h = (grind (arith, ints), λ x y. cc)

pub in_order : (ends : List End) → IsSorted end_cmp ends → IsInOrder ends
in_order ends sorted i j d less below =
    let first = get_or ends i d in
    let second = get_or ends j d in
    may_precede_at first.at second.at first.side second.side
    (sorted_far (λ x y. is_lt (end_cmp x y)) (ranks_by total-law (λ x. x)) ends sorted i j d (omega arith) below)
