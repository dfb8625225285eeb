use Rattle.checker.proofs.Common.{length, Ok, Err, ap, ap₂, ◌∙◌, to_z-of_z, w128, data_of, piece_data, piece_hull, hull_fault}
use Rattle.checker.proofs.FirstFault.{cut_before, cut_after, uncut, uncut_piece}
use Rattle.checker.proofs.NoOverflow.{last_kept, bound_kept}
use Rattle.checker.proofs.EntryStatement.{listed_parts}
use Rattle.checker.proofs.Part.{listed_again}
use Rattle.checker.proofs.piece.piece_fault.Goals as goal
use Rattle.checker.proofs.piece.piece_fault.Goals.{then-stretch-begin-via-then-stretch-begin}
use Rattle.checker.proofs.piece.piece_fault.Goals.{then-stretch-begin-via-else-stretch-begin+then-claim-stretch}

pub piece_hull-requires-clause-listed : goal.piece_hull-requires-clause-listed
piece_hull-requires-clause-listed g c =
    let samples = g.S.SampleSource.samples c.args.samples in
    let listed =
    listed_parts samples _ c.args.claim.now.drift_ppb (length c.args.claim.now.servers.items)
    c.args.piece.now.entries.items c.add_parts.new.parts.items c.requires.listed c.in-Ok.ensures in
    listed_again c.as_slice.result.now c.add_parts.new.parts.items c.as_slice-in-Ok.result.now _
    c.as_slice.ensures.value
    (ap length c.as_slice-in-Ok.ensures.value ∙ c.args.claim.now.lawful.group_for_each) listed

pub add_parts-requires-clause-stretch : goal.add_parts-requires-clause-stretch
add_parts-requires-clause-stretch g c =
    let claim = data_of c.args.claim.now in
    let begin = to_z-of_z w128 c.args.begin c.ranges.begin in
    let fits = to_z-of_z w128 c.from.result (record { sfits = c.from.type_inv }) in
    let end = fits ∙ c.from.ensures in
    let last = last_kept claim c.args.claim.now.lawful in
    uncut_piece (g.S.SampleSource.samples c.args.samples) claim c.args.begin (piece_data c.args.piece.now) _ _ _ begin
    end last c.requires.from_1970 c.args.claim.now.lawful.span_ends (rw fits at c.if-stretch-begin.false)
    (rw fits at c.if-claim-stretch.false)

pub returns-then-stretch-begin : goal.returns-then-stretch-begin
returns-then-stretch-begin g c =
    let samples = g.S.SampleSource.samples c.args.samples in
    let claim = data_of c.args.claim.now in
    let piece = piece_data c.args.piece.now in
    let begin = to_z-of_z w128 c.args.begin c.ranges.begin in
    let fits = to_z-of_z w128 c.from.result (record { sfits = c.from.type_inv }) in
    let end = fits ∙ c.from.ensures in
    let last = last_kept claim c.args.claim.now.lawful in
    elim c.then-stretch-begin.branch [
      | then-stretch-begin-via-then-stretch-begin w ↦
          cut_before samples claim c.args.begin piece _ _ _ begin end last (rw fits at w.if-stretch-begin.true)
      | then-stretch-begin-via-else-stretch-begin+then-claim-stretch w ↦
          cut_after samples claim c.args.begin piece _ _ _ begin end last (rw fits at w.if-stretch-begin.false)
          (rw fits at w.if-claim-stretch.true)
    ]

pub returns-in-Ok : goal.returns-in-Ok
returns-in-Ok g c =
    let samples = g.S.SampleSource.samples c.args.samples in
    let claim = data_of c.args.claim.now in
    let begin = to_z-of_z w128 c.args.begin c.ranges.begin in
    let fits = to_z-of_z w128 c.from.result (record { sfits = c.from.type_inv }) in
    let end = fits ∙ c.from.ensures in
    let last = last_kept claim c.args.claim.now.lawful in
    c.hull_fault.ensures
    ∙ ap₂ hull_fault (bound_kept claim c.args.claim.now.lawful)
    (c.piece_hull.ensures
    ∙ ap₂ (λ groups parts. piece_hull groups claim.false_max parts) c.as_slice-in-Ok.ensures.value
    c.as_slice.ensures.value)
    ∙ uncut samples claim c.args.begin (piece_data c.args.piece.now) _ _ _ begin end last
    (Ok c.add_parts.new.parts.items) (rw fits at c.if-stretch-begin.false) (rw fits at c.if-claim-stretch.false)
    c.in-Ok.ensures

pub returns-in-Err : goal.returns-in-Err
returns-in-Err g c =
    let samples = g.S.SampleSource.samples c.args.samples in
    let claim = data_of c.args.claim.now in
    let begin = to_z-of_z w128 c.args.begin c.ranges.begin in
    let fits = to_z-of_z w128 c.from.result (record { sfits = c.from.type_inv }) in
    let end = fits ∙ c.from.ensures in
    let last = last_kept claim c.args.claim.now.lawful in
    uncut samples claim c.args.begin (piece_data c.args.piece.now) _ _ _ begin end last (Err c.in-Err.why)
    (rw fits at c.if-stretch-begin.false) (rw fits at c.if-claim-stretch.false) c.in-Err.ensures
