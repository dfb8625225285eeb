use Rattle.audit_text.proofs.Common.{◌≡◌, ◌∙◌, ◌++◌, ◌^◌, ◌<◌, ℤ, [], ◌∷◌, ap, sym, arith, codes, rules, to_z, of_z, unsigned_abs, ints, to_z-of_z, IfOk, w128, Number, Address, Label, Low, High, offset_from, offset_to, delay_from, delay_to, sample_of, Sample, sample_line, row_of, w128_keeps}
use Rattle.audit_text.proofs.sample_line.add_sample.Goals as goal

pub returns : goal.returns
unfolding sample_line
returns c =
    let claim = c.args.claim.now in
    let lawful = c.args.claim.now.lawful in
    let x = c.args.x.now in
    let small : unsigned_abs claim.reading < 2 ^ 127 =
    omega (arith, ints, lawful.reading_not_negative, lawful.reading_in_range) in
    let reading = w128_keeps claim.reading small in
    let offset = c.offset-offset_from.result in
    let delay = c.delay-delay_from.result in
    let error = c.sample-error.result in
    let exact = c.sample-error.ensures.exact ∙ ap (sample_of x) reading in
    let kept : ℤ → ℤ = λ z. to_z w128 (of_z w128 z) in
    let told : IfOk c.add_row.result (λ _. c.add_row.new.text.items ≡ c.args.text.now.items ++ row_of c.args.style (
    Number c.from.result ∷ Address c.server_of.result ∷ Number c.from-2.result ∷ Number c.from-3.result ∷
    Label (codes "offset") ∷ Low (kept offset.0) ∷ High (kept offset.1) ∷
    Label (codes "delay") ∷ Low (kept delay.0) ∷ High (kept delay.1) ∷
    Label (codes "low") ∷ Low (kept error.low) ∷ Label (codes "high") ∷ High (kept error.high) ∷ [])) =
    c.add_row.ensures in
    rw (sym c.from.ensures, sym c.from-2.ensures, sym c.from-3.ensures, sym c.server_of.ensures) (rw (
      sym (to_z-of_z w128 offset.0 (search rules) ∙ c.offset-offset_from.ensures.from ∙ ap (offset_from x) reading),
      sym (to_z-of_z w128 offset.1 (search rules) ∙ c.offset-offset_from.ensures.to ∙ ap (offset_to x) reading),
      sym (to_z-of_z w128 delay.0 (search rules) ∙ c.delay-delay_from.ensures.from ∙ ap (delay_from x) reading),
      sym (to_z-of_z w128 delay.1 (search rules) ∙ c.delay-delay_from.ensures.to ∙ ap (delay_to x) reading),
      sym (w128_keeps error.low (omega (arith, c.sample-error.ensures.lawful.low)) ∙ ap (λ (s : Sample). s.low) exact),
      sym (w128_keeps error.high (omega (arith, c.sample-error.ensures.lawful.high)) ∙ ap (λ (s : Sample). s.high) exact),
    ) told)
