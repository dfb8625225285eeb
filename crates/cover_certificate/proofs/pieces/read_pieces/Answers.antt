use Rattle.cover_certificate.proofs.Common.{◌≡◌, Some, None, inl, inr, ap, ◌∙◌, arith, after_end_array, mapped-shorter, array_ends, element_refused, pieces_data, judged, pieces_and}
use Rattle.cover_certificate.proofs.PiecesRead.{pieces_after, pieces_last, too_many_there, one_more_there}
use Rattle.cover_certificate.proofs.pieces.read_pieces.Goals as goal

pub returns-then-count-eq-MAX_PIECES : goal.returns-then-count-eq-MAX_PIECES
returns-then-count-eq-MAX_PIECES c =
    let l = c.pieces in
    let found = judged pieces_data l.found in
    let going : (after_end_array l.reader ≡ None) × (c.take_end_array.new.self ≡ l.reader) = grind arith in
    l.invariant.read
    ∙ too_many_there l.count found c.args.depth l.reader going.0 c.pass_items.new.reader (omega arith)
    (rw (← going.1) c.in_ok-pass_items.ensures.passed)

pub returns-in_err-found : goal.returns-in_err-found
returns-in_err-found c =
    let l = c.pieces in
    let found = judged pieces_data l.found in
    let going : (after_end_array l.reader ≡ None) × (c.take_end_array.new.self ≡ l.reader) = grind arith in
    elim c.in_err-found.ensures [
      | inl memory ↦ grind (arith, memory)
      | inr none ↦
          let refused = l.invariant.read
          ∙ element_refused (pieces_after l.count found) c.args.depth l.reader (pieces_and l.count found) going.0
          (rw (← going.1) none.1) in
          grind (arith, refused)
    ]

pub pieces-smaller : goal.pieces-smaller
pieces-smaller c =
    let l = c.pieces in
    let found = judged pieces_data l.found in
    let going : (after_end_array l.reader ≡ None) × (c.take_end_array.new.self ≡ l.reader) = grind arith in
    mapped-shorter (pieces_and l.count found) c.args.depth l.reader c.read_next.new.reader
    (judged pieces_data c.in_ok-found.found)
    (rw (← going.1) c.in_ok-found.ensures)

pub pieces-preserved : goal.pieces-preserved
pieces-preserved c =
    let l = c.pieces in
    let found = judged pieces_data l.found in
    let r = c.read_next.new.reader in
    let going : (after_end_array l.reader ≡ None) × (c.take_end_array.new.self ≡ l.reader) = grind arith in
    record {
      read = l.invariant.read
          ∙ one_more_there l.count found c.args.depth l.reader going.0 (judged pieces_data c.in_ok-found.found) r
          (rw (← going.1) c.in_ok-found.ensures);
      few = omega (arith, l.invariant.few);
    }

pub returns : goal.returns
returns c =
    let l = c.pieces in
    let r = c.take_end_array.new.self in
    let over : after_end_array l.reader ≡ Some r = grind arith in
    let found = judged pieces_data l.found in
    l.invariant.read ∙ array_ends (pieces_after l.count found) c.args.depth l.reader r over
    ∙ ap (λ e. Some (e, r)) (pieces_last l.count found l.invariant.few)
