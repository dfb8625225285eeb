use Rattle.true_time.proofs.Common.{◌∙◌, ◌++◌, ap, refl, sym, subst, slice_get_read, data_of, Hull, reading_data, reading_line}
use Rattle.true_time.specs.Common.{IsLawfulReading}
use Rattle.true_time.specs.ReadingLine.{reading_row}
use Rattle.reading_time.specs.declared.reading.Reading.{Reading}
use Rattle.audit_text.proofs.Rows.{row_added, rows_done}
use Rattle.true_time.proofs.reading_line.add_readings.Goals as goal

pub loop-number-preserved : goal.loop-number-preserved
loop-number-preserved c samples tabled =
    let style = c.args.style in
    let row = reading_row style samples (data_of c.args.claim.now) in
    let number = c.loop-number.number in
    let old = c.loop-number.text.items in
    let reading = c.index-readings-number.result in
    row_added row reading_data c.args.readings.now number reading c.loop-number-test.true old _ _
    (c.in_ok-add_reading.ensures
    ∙ ap (λ (h : Hull). old ++ reading_line style (reading_data reading) h) (c.hull_at-hull.ensures samples tabled)
    ∙ ap (λ (p : Reading). old ++ row number (reading_data p)) c.index-readings-number.is)
    (c.loop-number.invariant samples tabled)

pub hull_at-hull-requires : goal.hull_at-hull-requires
hull_at-hull-requires c =
    let reading = c.index-readings-number.result in
    let number = c.loop-number.number in
    let is = c.index-readings-number.is in
    record {
      tables = c.requires.tables;
      lawful = subst (λ (p : Reading). IsLawfulReading (reading_data p)) (sym is)
          (c.requires.readings number reading c.loop-number-test.true);
      found = λ samples tabled. c.requires.hulls samples tabled number reading
          (slice_get_read c.args.readings.now _ number reading refl c.loop-number-test.true is);
    }

pub returns : goal.returns
returns c samples tabled =
    let row = reading_row c.args.style samples (data_of c.args.claim.now) in
    rows_done row reading_data c.args.readings.now c.loop-number.number c.loop-number-test.false _ _
    (c.loop-number.invariant samples tabled)
