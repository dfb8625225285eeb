use Rattle.audit.proofs.Common.{◌∙◌, ◌++◌, ap}
use Rattle.audit.specs.ByCovers.{hull_row}
use Rattle.audit.specs.Common.{Hull, reading_data, reading_line}
use Rattle.audit_text.proofs.Rows.{row_added, rows_done}
use Rattle.reading_time.specs.declared.reading.Reading.{Reading}
use Rattle.audit.proofs.question.readings_by_covers.add_rows.Goals as goal

pub loop-number-preserved : goal.loop-number-preserved
loop-number-preserved c =
    let style = c.args.style in
    let row = hull_row style c.args.found.now in
    let number = c.loop-number.number in
    let old = c.loop-number.text.items in
    let reading = c.index-readings-number.result in
    row_added row reading_data c.args.readings.now number reading c.loop-number-test.true old _ _
    (c.in_ok-add_reading.ensures
    ∙ ap (λ (h : Hull). old ++ reading_line style (reading_data reading) h) c.hull_in.ensures
    ∙ ap (λ (p : Reading). old ++ row number (reading_data p)) c.index-readings-number.is)
    c.loop-number.invariant

pub returns : goal.returns
returns c =
    let row = hull_row c.args.style c.args.found.now in
    rows_done row reading_data c.args.readings.now c.loop-number.number c.loop-number-test.false _ _
    c.loop-number.invariant
