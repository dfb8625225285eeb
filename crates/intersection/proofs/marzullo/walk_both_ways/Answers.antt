use Rattle.intersection.proofs.Common.{ℤ, ◌∙◌, sym, ap, Some, rules, arith, to_z, of_z, FitsSigned, reverse, w128, to_z-of_z, items-with_items, Low, Empty, Bounded}
use Rattle.intersection.proofs.Hulls.{described}
use Rattle.intersection.proofs.Soundness.{walk_stops, walk_down, found_none, found_both, found_one}
use Rattle.intersection.proofs.marzullo.walk_both_ways.Goals as goal

pub returns-in_default-clause-described : goal.returns-in_default-clause-described
returns-in_default-clause-described g c =
    let list = c.args.list.now in
    let sorted = c.sorted_ends-ends.ensures in
    let found = rw c.as_slice.ensures.value at c.walk-least.ensures.found in
    let up = walk_stops Low list c.args.f _ c.sorted_ends-ends.result.items c.walk-least.result.0 sorted.ends
    sorted.order (omega arith) (omega arith) found in
    described list c.args.f Empty (found_none list c.args.f c.walk-least.result.0 (omega arith) up (search rules))

pub unreachable-requires : goal.unreachable-requires
unreachable-requires g c =
    let list = c.args.list.now in
    let sorted = c.sorted_ends-ends.ensures in
    let found = rw c.as_slice.ensures.value at c.walk-least.ensures.found in
    let up = walk_stops Low list c.args.f _ c.sorted_ends-ends.result.items c.walk-least.result.0 sorted.ends
    sorted.order (omega arith) (omega arith) found in
    let down = walk_down list c.args.f _ c.sorted_ends-ends.result.items c.as_slice-2.result.now
    c.walk-greatest.result.0 sorted.ends sorted.order (c.as_slice-2.ensures.value
    ∙ items-with_items c.sorted_ends-ends.result c.reverse.new.self (search rules) ∙ c.reverse.ensures.after
    ∙ ap reverse c.deref_mut.ensures.value) (omega arith) (omega arith) c.walk-greatest.ensures.found in
    found_one list c.args.f c.walk-least.result.0 c.walk-greatest.result.0 c.in-Some.lo up down c.in-Some.is
    c.in-None.is

pub returns-clause-described : goal.returns-clause-described
returns-clause-described g c =
    let list = c.args.list.now in
    let sorted = c.sorted_ends-ends.ensures in
    let found = rw c.as_slice.ensures.value at c.walk-least.ensures.found in
    let up = walk_stops Low list c.args.f _ c.sorted_ends-ends.result.items c.walk-least.result.0 sorted.ends
    sorted.order (omega arith) (omega arith) found in
    let turned =
    c.as_slice-2.ensures.value ∙ items-with_items c.sorted_ends-ends.result c.reverse.new.self (search rules)
    ∙ c.reverse.ensures.after ∙ ap reverse c.deref_mut.ensures.value in
    let down = walk_down list c.args.f _ c.sorted_ends-ends.result.items c.as_slice-2.result.now
    c.walk-greatest.result.0 sorted.ends sorted.order turned (omega arith) (omega arith)
    c.walk-greatest.ensures.found in
    let lo : ℤ = to_z w128 (of_z w128 c.in-Some.lo) in
    let hi : ℤ = to_z w128 (of_z w128 c.in-Some-greatest.hi) in
    let fits_lo : FitsSigned w128 c.in-Some.lo = search rules in
    let fits_hi : FitsSigned w128 c.in-Some-greatest.hi = search rules in
    let at_lo = c.in-Some.is ∙ ap Some (sym (to_z-of_z w128 c.in-Some.lo fits_lo)) in
    let at_hi = c.in-Some-greatest.is ∙ ap Some (sym (to_z-of_z w128 c.in-Some-greatest.hi fits_hi)) in
    described list c.args.f (Bounded lo hi)
    (found_both list c.args.f c.walk-least.result.0 c.walk-greatest.result.0 lo hi (omega arith) up down at_lo at_hi)
