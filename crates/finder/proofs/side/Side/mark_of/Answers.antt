use Rattle.finder.proofs.Common.{◌≡◌, neg_ℤ, sym, ap, ap₂, ◌∙◌, w128, to_z-of_z, low_mark, Mark, mark_at}
use Rattle.finder.proofs.GroupLeeway.{let_below, negative_kept}
use Rattle.finder.proofs.side.Side.mark_of.Goals as goal

pub returns-in-Below-clause-value : goal.returns-in-Below-clause-value
returns-in-Below-clause-value c =
    let x = c.args.exchange.now in
    let range = c.low_mark-mark.ensures.range in
    let mark : c.low_mark-mark.result ≡ low_mark c.args.allowance x =
    c.low_mark-mark.ensures.exact
    ∙ ap (λ allowance. low_mark allowance x) (to_z-of_z w128 c.args.allowance c.ranges.allowance) in
    rw c.in-Below.is (ap₂ mark_at
    (negative_kept c.low_mark-mark.result.place range.place ∙ ap (λ (m : Mark). neg_ℤ m.place) mark)
    (negative_kept c.low_mark-mark.result.error range.error ∙ ap (λ (m : Mark). neg_ℤ m.error) mark))

pub returns-in-Below-clause-exact : goal.returns-in-Below-clause-exact
returns-in-Below-clause-exact c claim reading ticks is =
    let x = c.args.exchange.now in
    let range = c.low_mark-mark.ensures.range in
    let mark : c.low_mark-mark.result ≡ low_mark claim.reading x =
    c.low_mark-mark.ensures.exact
    ∙ ap (λ allowance. low_mark allowance x) (to_z-of_z w128 c.args.allowance c.ranges.allowance ∙ sym is) in
    rw c.in-Below.is (let_below claim x reading ticks _ _
    (negative_kept c.low_mark-mark.result.place range.place ∙ ap (λ (m : Mark). neg_ℤ m.place) mark)
    (negative_kept c.low_mark-mark.result.error range.error ∙ ap (λ (m : Mark). neg_ℤ m.error) mark))
