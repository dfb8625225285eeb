use Rattle.std.proofs.Common.{◌≡◌, ◌+◌, ◌-◌, ◌<◌, ◌∙◌, ap, arith, get_or, length, map, subst, sym, Some}
use Rattle.std.proofs.lemmas.Option.{slice_get-get_or}
use Rattle.cover_finder.proofs.Sides.{at_zero, map_at, none_after, with_first}
use Rattle.cover_finder.specs.Ridge.{NoneIsBehind}
use Rattle.cover_finder.specs.Side.{turned}
use Rattle.cover_finder.specs.declared.peak.Numbered.{Numbered}
use Rattle.cover_finder.proofs.side.late_ridge.Goals as goal

pub loop-number-init : goal.loop-number-init
loop-number-init c = c.new-ridge.ensures (map turned c.args.marks.now) (length c.args.marks.now)

pub loop-number-preserved : goal.loop-number-preserved
loop-number-preserved c =
    let marks = c.args.marks.now in
    let j = c.loop-number.number in
    let n = length marks in
    let test : 0 < j = c.loop-number-test.true in
    let within : j - 1 < n = omega (arith, c.loop-number.auto.number) in
    let next : j ≡ j - 1 + 1 = omega arith in
    let one = get_or marks (j - 1) at_zero in
    let here = slice_get-get_or marks (j - 1) at_zero within in
    c.in_ok-take.ensures c.args.drift c.args.rate (map turned marks) j n (j - 1) (j - 1) n c.loop-number.invariant
    (map_at turned marks (j - 1) one here ∙ ap Some (sym c.turned.ensures.exact)) (with_first (j - 1) j n next within)
    (subst (λ (m : Numbered). NoneIsBehind (map turned marks) j n m.mark.place) (sym c.turned.ensures.exact)
    (none_after marks c.requires.order (j - 1) one here j n next))
