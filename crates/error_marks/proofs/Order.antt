-- Marks in order.
use Rattle.error_marks.proofs.Common.{◌≡◌, ℤ, ◌≤ℤ◌, false, List, arith, ints, sorted_far, ranks_by, IsInOrder, Mark}
use Rattle.std.specs.Prelude.{IsSortedByKey}
use Rattle.std.specs.Ordering.{is_lt, int_cmp}
use Rattle.std.proofs.lemmas.Cmp.{int_cmp_total}

not_less : (a b : ℤ) → is_lt (int_cmp b a) ≡ false → a ≤ℤ b
not_less a b h = grind (arith, ints)

pub in_order : (marks : List Mark) → IsSortedByKey (λ m. m.place) int_cmp marks → IsInOrder marks
in_order marks sorted i j d le below =
    not_less _ _
    (sorted_far (λ (x y : Mark). is_lt (int_cmp x.place y.place)) (ranks_by int_cmp_total (λ (m : Mark). m.place))
    marks sorted i j d le below)
