use Rattle.std.proofs.Common.{◌∙◌, ◌≤◌, ◌^◌, ◌≡◌, ◌+ℤ◌, ◌-ℤ◌, ℤ, ap, ap₂, arith, map, neg_ℤ, pos, refl, unsigned_abs, to_z, of_z}
use Rattle.std.proofs.lemmas.Int.{ints}
use Rattle.lemma_base.proofs.Int.{w128_keeps}
use mir.Syntax.{w128}
use Rattle.cover_finder.specs.Side.{middle_of, turned}
use Rattle.cover_finder.proofs.Sides.{higher_is, kept_both}
use Rattle.cover_finder.proofs.side.Side.highest.Goals as goal

turned_next : (m : ℤ) → unsigned_abs m ≤ 2 ^ 107
    → to_z w128 (of_z w128 (pos 0 -ℤ to_z w128 (of_z w128 (to_z w128 (of_z w128 m) +ℤ pos 1)))) ≡ neg_ℤ (m +ℤ pos 1)
turned_next m small = omega (arith, ints)

turned_begin : (z : ℤ) → unsigned_abs z ≤ 2 ^ 107
    → to_z w128 (of_z w128 (pos 0 -ℤ to_z w128 (of_z w128 z))) ≡ neg_ℤ z
turned_begin z small = omega (arith, ints)

pub returns-clause-exact : goal.returns-clause-exact
returns-clause-exact c drift onwards back marks is =
    let side = c.args.self.now in
    let stretch = c.args.stretch in
    let m = c.middle_of-middle.result in
    let middle = middle_of onwards back stretch in
    let small : unsigned_abs m ≤ 2 ^ 107 = c.middle_of-middle.ensures.in_range in
    let m_is : m ≡ middle = c.middle_of-middle.ensures.exact
    ∙ ap₂ (λ o b. middle_of o b stretch) is.early.rate_is is.late.rate_is in
    let range = c.requires in
    rw c.higher.ensures
    (higher_is drift onwards back marks stretch (omega (arith, side.early.some, is.early.rate_is))
    (omega (arith, side.late.some, is.late.rate_is)) c.requires.in_order
    (neg_ℤ (middle +ℤ pos 1)) refl c.highest-early.result c.highest-late.result
    (kept_both drift onwards marks c.highest-early.result
    (w128_keeps m (omega arith) ∙ m_is) (w128_keeps stretch.end (omega (arith, ints)))
    (c.highest-early.ensures.exact drift onwards marks is.early))
    (kept_both drift back (map turned marks) c.highest-late.result
    (turned_next m small ∙ ap (λ z. neg_ℤ (z +ℤ pos 1)) m_is) (turned_begin stretch.begin (omega (arith, ints)))
    (c.highest-late.ensures.exact drift back (map turned marks) is.late)))
