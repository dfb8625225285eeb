use Rattle.sweep.proofs.Common.{ℕ, ◌≡◌, ◌+◌, ◌-◌, ◌*◌, ◌/◌, ap, ◌∙◌, sym, arith, mul-add-div, billion}
use Rattle.sweep.proofs.table.level_of.Goals as goal

pub returns : goal.returns
returns c =
    let m : ℕ = billion - c.args.drift_ppb in
    let rate = c.from-parts.ensures in
    let taken = c.in-Some.ensures in
    let same = c.in-Ok.ensures in
    let product : m * c.args.from ≡ (billion - c.from-parts.result) * c.args.from =
    ap (λ (r : ℕ). (billion - r) * c.args.from) (sym rate) in
    let whole : m * c.args.from + c.in-Ok.rest ≡ c.args.rise = omega (arith, product, taken.0, taken.1, same.1) in
    let divided : c.from.result ≡ c.in-Ok.rest / m =
    c.from.ensures ∙ ap (λ (r : ℕ). c.in-Ok.rest / (billion - r)) rate in
    ap (λ (q : ℕ). c.args.from + q) divided
    ∙ sym (mul-add-div (omega (arith, c.requires.rate)) c.args.from c.in-Ok.rest)
    ∙ ap (λ (n : ℕ). n / m) whole
