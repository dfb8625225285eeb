use Rattle.std.proofs.Common.{◌≡◌, ◌==◌, ◌++◌, ◌∷◌, false, option_map, ap, sym, ◌∙◌, rules}
use Rattle.sum_file.specs.Name as spec
use Rattle.sum_file.proofs.Escapes.{unescaped-plain, unescaped-pair, name_more}
use Rattle.sum_file.proofs.name.unescaped.Goals as goal

pub loop-byte-preserved-then-byte-ne92 : goal.loop-byte-preserved-then-byte-ne92
loop-byte-preserved-then-byte-ne92 c =
    let name = c.loop-byte.name.items in
    let plain : (c.in-Some.byte.now == 92) ≡ false = search rules in
    name_more _ _ name _ c.in-Some.byte.now
    (c.loop-byte.invariant
    ∙ ap (λ r. option_map (λ n. name ++ n) (spec.unescaped r)) c.in-Some.ensures.cases.0
    ∙ ap (option_map (λ n. name ++ n)) (unescaped-plain _ c.in-Some.after.now plain))
    c.in_ok-push.ensures.items

pub loop-byte-preserved : goal.loop-byte-preserved
loop-byte-preserved c =
    let name = c.loop-byte.name.items in
    name_more _ _ name _ c.in-Some-unescape.byte
    (c.loop-byte.invariant
    ∙ ap (λ r. option_map (λ n. name ++ n) (spec.unescaped r)) (c.in-Some.ensures.cases.0
    ∙ ap (λ b. b ∷ c.in-Some.after.now) c.if-byte-ne92.false
    ∙ ap (λ r. 92 ∷ r) c.in-Some-split_first.ensures.cases.0)
    ∙ ap (option_map (λ n. name ++ n))
    (unescaped-pair c.in-Some-split_first.escape.now _ c.in-Some-split_first.after.now
    (sym c.unescape.ensures.exact ∙ c.in-Some-unescape.is)))
    c.in_ok-push-2.ensures.items
