use Rattle.error_marks.proofs.Common.{◌+◌, ◌-◌, ◌/◌, ◌<◌, ◌≤◌, ◌≡◌, length, take, drop, refl, sym, subst, IsPermutation, arith}
use Rattle.std.proofs.lemmas.Bool.{false≢true}
use Rattle.error_marks.proofs.FrontMarks.{in_front, more_fit, part_compatible}
use Rattle.error_marks.proofs.conflict.front_by_halving.Goals as goal
use Rattle.error_marks.proofs.conflict.front_by_halving.Goals.{then-all_compatible_in_order, else-all_compatible_in_order}

pub loop-least-preserved : goal.loop-least-preserved
loop-least-preserved c =
    let ppb = c.args.drift_ppb in
    let lows = c.args.lows.now in
    let highs = c.args.highs.now in
    let before = c.loop-least.invariant in
    let least = c.loop-least.least in
    let middle = c.loop-least.most - (c.loop-least.most - least) / 2 in
    let test : least < c.loop-least.most = c.loop-least-test.true in
    let le : middle ≤ length lows = omega (arith, before.within) in
    let forward : least ≤ middle = omega (arith, before.in_order) in
    let part = take (middle - least) (drop least lows) in
    let moved = subst (IsPermutation part) (sym c.deref.ensures.value) c.in_ok-part.ensures.permutation in
    elim c.if-all_compatible_in_order.branch [
      | then-all_compatible_in_order w ↦ let fits = w.if-all_compatible_in_order.ensures in record {
        in_order = omega (arith, w.least-is, w.most-is);
        within = omega (arith, w.most-is, before.within);
        fit = rw w.least-is (more_fit ppb lows highs part c.deref.result.now least middle forward le refl moved
            before.fit
            (fits.0 refl));
        no_more = rw w.most-is before.no_more;
      }
      | else-all_compatible_in_order w ↦ let fits = w.if-all_compatible_in_order.ensures in record {
        in_order = omega (arith, w.least-is, w.most-is);
        within = omega (arith, w.most-is, before.within);
        fit = rw w.least-is before.fit;
        no_more = λ lt fit. let same : c.if-all_compatible_in_order.most + 1 ≡ middle = omega (arith, w.most-is) in
            false≢true (fits.1
            (part_compatible ppb lows highs part c.deref.result.now least middle forward le refl moved
            (rw same at fit)));
      }
    ]

pub returns : goal.returns
returns c =
    let last = c.loop-least.invariant in
    in_front c.args.drift_ppb c.args.lows.now c.args.highs.now c.loop-least.least c.loop-least.most last.in_order
    c.loop-least-test.false last.within last.fit last.no_more
