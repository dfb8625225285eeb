use Rattle.std.proofs.Common.{◌≡◌, ◌≤◌, length, map, sym, ap, ◌∙◌, arith, to_z, of_z}
use Rattle.std.proofs.Math.Facts.{of_z-to_z}
use Rattle.std.proofs.lemmas.Int.{ints, to_z-of_z}
use mir.Syntax.{w128}
use Rattle.certificate.specs.Certificate.{piece_data}
use Rattle.checker.proofs.FirstFault.{none_read, ends_elsewhere}
use Rattle.checker.proofs.NoOverflow.{first_kept, last_kept}
use Rattle.claim_file.specs.Claim.{data_of as claim_data}
use Rattle.feasibility.specs.Members.{has}
use Rattle.cover_checker.proofs.PieceFaults.{covered, passes_to, same_out, stops_at, uncovered}
use Rattle.cover_checker.specs.Verdict.{pieces_why}
use Rattle.cover_checker.proofs.piece.case_fault.Goals as goal
use Rattle.cover_checker.proofs.piece.case_fault.Goals.{else-count-gt0-via-then-count-gt0+else-begin-claim}
use Rattle.cover_checker.proofs.piece.case_fault.Goals.{else-count-gt0-via-else-count-gt0}

pub loop-number-init : goal.loop-number-init
loop-number-init g c =
    let xs = map g.X.ToExchange.shown c.args.exchanges.now in
    let claim = claim_data c.args.claim.now in
    let lawful = c.args.claim.now.lawful in
    let first = first_kept claim lawful in
    let forward = lawful.span_forward in
    let ends = lawful.span_ends in
    record {
      rest = ap (λ b. pieces_why claim xs (has c.set_of-out.result) 0 b (map piece_data c.args.case.now.pieces.items))
          first;
      from_1970 = rw first lawful.span_begins;
      in_range = rw first (omega (arith, ints));
    }

pub loop-number-preserved : goal.loop-number-preserved
loop-number-preserved g c =
    let xs = map g.X.ToExchange.shown c.args.exchanges.now in
    let claim = claim_data c.args.claim.now in
    let upto = to_z-of_z w128 c.from-begin.result (record { sfits = c.from-begin.type_inv }) ∙ c.from-begin.ensures in
    record {
      rest = passes_to claim xs (has c.set_of-out.result) c.args.case.now.pieces.items c.loop-number.number _ _
          c.loop-number.invariant.rest c.deref-piece-items.result.now c.piece-item.result
          c.deref-piece-items.ensures.value c.piece-item.is c.loop-number-test.true _ upto
          (sym c.piece_why.ensures ∙ c.in_default.is);
      from_1970 = rw upto (omega (arith, ints));
      in_range = rw upto (omega (arith, ints));
    }

pub returns-in-Some : goal.returns-in-Some
returns-in-Some g c =
    let xs = map g.X.ToExchange.shown c.args.exchanges.now in
    let claim = claim_data c.args.claim.now in
    stops_at claim xs (has c.set_of-out.result) c.args.case.now.pieces.items c.loop-number.number _ _
    c.loop-number.invariant.rest c.deref-piece-items.result.now c.piece-item.result
    c.deref-piece-items.ensures.value c.piece-item.is c.loop-number-test.true c.in-Some.why
    (sym c.piece_why.ensures ∙ c.in-Some.is)
    ∙ same_out claim xs c.args.case.now c.set_of-out.result c.set_of-out.ensures

pub returns-then-begin-claim : goal.returns-then-begin-claim
returns-then-begin-claim g c =
    let xs = map g.X.ToExchange.shown c.args.exchanges.now in
    let claim = claim_data c.args.claim.now in
    let pieces = c.args.case.now.pieces.items in
    let over : length pieces ≤ c.loop-number.number = omega arith in
    covered claim xs (has c.set_of-out.result) pieces c.loop-number.number _ _ c.loop-number.invariant.rest over
    (omega arith) (ap (to_z w128) c.if-begin-claim.true ∙ last_kept claim c.args.claim.now.lawful)
    ∙ same_out claim xs c.args.case.now c.set_of-out.result c.set_of-out.ensures

pub returns : goal.returns
returns g c =
    let xs = map g.X.ToExchange.shown c.args.exchanges.now in
    let claim = claim_data c.args.claim.now in
    let pieces = c.args.case.now.pieces.items in
    let n = c.loop-number.number in
    let over : length pieces ≤ n = omega arith in
    let all : c.len-count.result ≡ n = omega arith in
    uncovered claim xs (has c.set_of-out.result) pieces n _ _ c.loop-number.invariant.rest over c.len-count.result all
    (elim c.else-count-gt0.branch [
      | else-count-gt0-via-then-count-gt0+else-begin-claim w ↦
          ends_elsewhere n _ claim.last
          (λ ends. w.if-begin-claim.false (sym (of_z-to_z c.loop-number.auto.begin) ∙ ap (of_z w128) ends))
      | else-count-gt0-via-else-count-gt0 w ↦ none_read n _ claim.last (omega arith)
    ])
    ∙ same_out claim xs c.args.case.now c.set_of-out.result c.set_of-out.ensures
