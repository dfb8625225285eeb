use Rattle.finder.proofs.Common.{◌≡◌, true≢false, pos, get_or, length, rules, sym, ap, ◌∙◌, to_z, of_z, arith, w128, ints, holds, leeway_in, no_limit}
use Rattle.std.proofs.lemmas.List.{get_or_default}
use Rattle.finder.proofs.GroupLeeway.{no_tighter, tighter}
use Rattle.finder.proofs.leeway.tightest.Goals as goal
use Rattle.finder.proofs.leeway.tightest.Goals.{then-not-contains+then-most-least, else-not-contains, else-not-contains-via-then-not-contains+else-most-least, else-not-contains-via-else-not-contains}

pub loop-group-preserved : goal.loop-group-preserved
loop-group-preserved c =
    let leeways = c.args.leeways.now in
    let left_out = holds c.args.left_out in
    let n = c.loop-group.group in
    let before = c.loop-group.invariant.so_far in
    let all : length leeways ≡ 32 = search rules in
    let fits : to_z w128 (of_z w128 (get_or leeways c.from.result (pos 0))) ≡ get_or leeways c.from.result (pos 0) =
    search rules in
    let from = c.from.ensures in
    let below = c.loop-group-test.true in
    let here : to_z w128 (of_z w128 (get_or leeways c.from.result (pos 0))) ≡ leeway_in leeways n =
    fits ∙ get_or_default leeways c.from.result (pos 0) no_limit (omega (arith, all, from, below))
    ∙ ap (leeway_in leeways) from in
    elim c.if-not-contains.branch [
      | then-not-contains+then-most-least w ↦
          let test = rw here at w.if-most-least.true in
          let tightest = w.tightest-is in
          record {
            below = omega (arith, tightest, below);
            so_far = rw (w.tightest-is, w.least-is, here)
                (tighter leeways left_out n c.loop-group.tightest _ before
                (sym c.contains.ensures.exact ∙ w.if-not-contains.true) (grind (arith, ints)));
          }
      | else-not-contains w ↦
          record {
            below = omega arith;
            so_far = rw (w.tightest-is, w.least-is) (no_tighter leeways left_out n c.loop-group.tightest _ before
                (λ outside. elim w.else-not-contains.branch [
                  | else-not-contains-via-then-not-contains+else-most-least w' ↦
                      (let test = rw here at w'.if-most-least.false in grind (arith, ints))
                  | else-not-contains-via-else-not-contains w' ↦
                      absurd (true≢false (sym w'.if-not-contains.false ∙ c.contains.ensures.exact ∙ outside))
                ]));
          }
    ]
