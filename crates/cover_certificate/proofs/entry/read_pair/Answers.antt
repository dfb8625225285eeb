use Rattle.cover_certificate.proofs.Common.{Some, sym, ap, ◌∙◌, arith, array_ends, element_refused, sample_of, pair_of}
use Rattle.certificate.proofs.PairRead.{GoesOn, one_alone, high_refused, pair_read, third_refused, three}
use Rattle.cover_certificate.proofs.entry.read_pair.Goals as goal

pub returns-then-take_end_array : goal.returns-then-take_end_array
returns-then-take_end_array c =
    array_ends pair_of c.args.depth c.args.reader.now c.take_end_array.new.self (grind arith)

pub returns-in_err-low : goal.returns-in_err-low
returns-in_err-low c =
    let ts = c.args.reader.now in
    let going : GoesOn ts c.take_end_array.new.self = grind arith in
    let refused = element_refused pair_of c.args.depth ts sample_of going.0 (rw (← going.1) c.in_err-low.ensures) in
    grind (arith, refused)

pub returns-then-take_end_array-2 : goal.returns-then-take_end_array-2
returns-then-take_end_array-2 c =
    one_alone c.args.depth c.args.reader.now c.take_end_array.new.self c.read_sample.new.reader c.in_ok-low.low
    (grind arith) c.in_ok-low.ensures c.take_end_array-2.new.self (grind arith)

pub returns-in_err-high : goal.returns-in_err-high
returns-in_err-high c =
    let refused = high_refused c.args.depth c.args.reader.now c.take_end_array.new.self c.read_sample.new.reader
    c.in_ok-low.low (grind arith) c.in_ok-low.ensures c.take_end_array-2.new.self (grind arith)
    c.in_err-high.ensures in
    grind (arith, refused)

pub returns-in_err-pass_items : goal.returns-in_err-pass_items
returns-in_err-pass_items c =
    let refused = third_refused c.args.depth c.args.reader.now c.take_end_array.new.self c.read_sample.new.reader
    c.in_ok-low.low (grind arith) c.in_ok-low.ensures c.take_end_array-2.new.self (grind arith)
    c.read_sample-2.new.reader c.in_ok-high.high c.in_ok-high.ensures c.take_end_array-3.new.self (grind arith)
    c.in_err-pass_items.ensures.passed in
    grind (arith, refused)

pub returns-then-not-take_end_array : goal.returns-then-not-take_end_array
returns-then-not-take_end_array c =
    three c.args.depth c.args.reader.now c.take_end_array.new.self c.read_sample.new.reader c.in_ok-low.low
    (grind arith) c.in_ok-low.ensures c.take_end_array-2.new.self (grind arith) c.read_sample-2.new.reader
    c.in_ok-high.high c.in_ok-high.ensures c.take_end_array-3.new.self (grind arith) c.pass_items.new.reader
    c.in_ok-pass_items.ensures.passed

pub returns : goal.returns
returns c =
    pair_read c.args.depth c.args.reader.now c.take_end_array.new.self c.read_sample.new.reader c.in_ok-low.low
    (grind arith) c.in_ok-low.ensures c.take_end_array-2.new.self (grind arith) c.read_sample-2.new.reader
    c.in_ok-high.high c.in_ok-high.ensures c.take_end_array-3.new.self (grind arith)
    ∙ ap (λ p. Some (p, c.take_end_array-3.new.self)) (sym c.pair_of.ensures)
