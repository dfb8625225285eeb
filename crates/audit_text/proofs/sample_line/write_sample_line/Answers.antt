use Rattle.audit_text.proofs.Common.{◌≡◌, ◌∙◌, ◌^◌, ◌<◌, ℕ, [], ◌∷◌, ap, arith, codes, refl, unsigned_abs, ints, line_of, Number, Address, Label, Low, High, Plain, ClaimData, data_of, Exchange, offset_from, offset_to, delay_from, delay_to, least_error, greatest_error, sample_of, Sample, sample_fields, sample_line, server_of, row_of, w128_keeps}
use Rattle.audit_text.proofs.PlainLines.{groups_written}
use Rattle.audit_text.proofs.sample_line.write_sample_line.Goals as goal

-- no field of it is blank
whole : (claim : ClaimData) (number : ℕ) (x : Exchange) →
    line_of Plain (sample_fields claim number x) ≡ row_of Plain (sample_fields claim number x)
unfolding row_of
whole claim number x = refl

pub returns-clause-text : goal.returns-clause-text
unfolding sample_line
returns-clause-text c =
    let x = c.args.x.now in
    let claim = data_of c.args.claim.now in
    let lawful = c.args.claim.now.lawful in
    let small : unsigned_abs claim.reading < 2 ^ 127 =
    omega (arith, ints, lawful.reading_not_negative, lawful.reading_in_range) in
    let reading = w128_keeps claim.reading small in
    let error = c.sample-error.ensures in
    let exact = error.exact ∙ ap (sample_of x) reading in
    rw (c.put_number.ensures.text, c.put_records.ensures.text, c.put_interval-2.ensures.text)
    (rw (c.put_interval.ensures.text, c.put_errors.ensures.text, c.put_byte.ensures.text, c.clear.ensures)
    (rw (c.server_of.ensures, c.offset.ensures.from ∙ ap (offset_from x) reading)
    (rw (c.offset.ensures.to ∙ ap (offset_to x) reading, c.delay.ensures.from ∙ ap (delay_from x) reading)
    (rw (c.delay.ensures.to ∙ ap (delay_to x) reading)
    (rw (w128_keeps _ (omega (arith, error.lawful.low)) ∙ ap (λ (s : Sample). s.low) exact)
    (rw (w128_keeps _ (omega (arith, error.lawful.high)) ∙ ap (λ (s : Sample). s.high) exact)
    (groups_written (Number c.args.number)
    (Address (server_of claim x.server) ∷ Number x.request ∷ Number x.reply ∷ [])
    (Label (codes "offset") ∷ Low (offset_from x claim.reading) ∷ High (offset_to x claim.reading) ∷ [])
    (Label (codes "delay") ∷ Low (delay_from x claim.reading) ∷ High (delay_to x claim.reading) ∷ [])
    (Label (codes "low") ∷ Low (least_error x claim.reading) ∷
    Label (codes "high") ∷ High (greatest_error x claim.reading) ∷ [])
    ∙ whole claim c.args.number x)))))))
