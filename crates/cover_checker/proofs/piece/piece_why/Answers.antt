use Rattle.std.proofs.Common.{map, length, Ok, Err, ap, ap₂, ◌∙◌}
use Rattle.std.proofs.lemmas.Int.{to_z-of_z}
use Rattle.std.specs.Option.{option_map}
use mir.Syntax.{w128}
use Rattle.certificate.specs.Certificate.{piece_data}
use Rattle.checker.proofs.NoOverflow.{last_kept, bound_kept}
use Rattle.checker.proofs.Part.{listed_again}
use Rattle.checker.specs.Verdict.{hull_fault}
use Rattle.claim_file.specs.Claim.{data_of}
use Rattle.feasibility.specs.Members.{has}
use Rattle.span_cover.specs.Group.{piece_hull}
use Rattle.cover_checker.proofs.Entries.{listed_parts}
use Rattle.cover_checker.proofs.PieceFaults.{cut_before, cut_after, uncut, uncut_piece}
use Rattle.cover_checker.specs.declared.verdict.PieceWhy.TheVariants.{Of}
use Rattle.cover_checker.proofs.piece.piece_why.Goals as goal
use Rattle.cover_checker.proofs.piece.piece_why.Goals.{then-stretch-begin-via-then-stretch-begin}
use Rattle.cover_checker.proofs.piece.piece_why.Goals.{then-stretch-begin-via-else-stretch-begin+then-claim-stretch}

pub piece_hull-requires-clause-listed : goal.piece_hull-requires-clause-listed
piece_hull-requires-clause-listed g c =
    let xs = map g.X.ToExchange.shown c.args.exchanges.now in
    let listed =
    listed_parts (data_of c.args.claim.now) xs (has c.args.out) _ (length c.args.claim.now.servers.items)
    c.args.piece.now.entries.items c.add_parts.new.parts.items c.requires.exchanges c.in-Ok.ensures in
    listed_again c.as_slice.result.now c.add_parts.new.parts.items c.as_slice-in-Ok.result.now _
    c.as_slice.ensures.value
    (ap length c.as_slice-in-Ok.ensures.value ∙ c.args.claim.now.lawful.group_for_each) listed

pub add_parts-requires-clause-stretch : goal.add_parts-requires-clause-stretch
add_parts-requires-clause-stretch g c =
    let claim = data_of c.args.claim.now in
    let begin = to_z-of_z w128 c.args.begin c.ranges.begin in
    let fits = to_z-of_z w128 c.from.result (record { sfits = c.from.type_inv }) in
    let end = fits ∙ c.from.ensures in
    let last = last_kept claim c.args.claim.now.lawful in
    uncut_piece claim (map g.X.ToExchange.shown c.args.exchanges.now) (has c.args.out) c.args.begin
    (piece_data c.args.piece.now) _ _ _ begin end last c.requires.from_1970 c.args.claim.now.lawful.span_ends
    (rw fits at c.if-stretch-begin.false) (rw fits at c.if-claim-stretch.false)

pub returns-then-stretch-begin : goal.returns-then-stretch-begin
returns-then-stretch-begin g c =
    let xs = map g.X.ToExchange.shown c.args.exchanges.now in
    let claim = data_of c.args.claim.now in
    let piece = piece_data c.args.piece.now in
    let begin = to_z-of_z w128 c.args.begin c.ranges.begin in
    let fits = to_z-of_z w128 c.from.result (record { sfits = c.from.type_inv }) in
    let end = fits ∙ c.from.ensures in
    let last = last_kept claim c.args.claim.now.lawful in
    elim c.then-stretch-begin.branch [
      | then-stretch-begin-via-then-stretch-begin w ↦
          cut_before claim xs (has c.args.out) c.args.begin piece _ _ _ begin end last
          (rw fits at w.if-stretch-begin.true)
      | then-stretch-begin-via-else-stretch-begin+then-claim-stretch w ↦
          cut_after claim xs (has c.args.out) c.args.begin piece _ _ _ begin end last
          (rw fits at w.if-stretch-begin.false) (rw fits at w.if-claim-stretch.true)
    ]

pub returns-in-Ok : goal.returns-in-Ok
returns-in-Ok g c =
    let xs = map g.X.ToExchange.shown c.args.exchanges.now in
    let claim = data_of c.args.claim.now in
    let begin = to_z-of_z w128 c.args.begin c.ranges.begin in
    let fits = to_z-of_z w128 c.from.result (record { sfits = c.from.type_inv }) in
    let end = fits ∙ c.from.ensures in
    let last = last_kept claim c.args.claim.now.lawful in
    c.hull_why.ensures
    ∙ ap₂ (λ bound hull. option_map Of (hull_fault bound hull)) (bound_kept claim c.args.claim.now.lawful)
    (c.piece_hull.ensures
    ∙ ap₂ (λ groups parts. piece_hull groups c.false_besides-few.result parts) c.as_slice-in-Ok.ensures.value
    c.as_slice.ensures.value
    ∙ ap (λ few. piece_hull claim.groups few c.add_parts.new.parts.items) c.false_besides-few.ensures)
    ∙ uncut claim xs (has c.args.out) c.args.begin (piece_data c.args.piece.now) _ _ _ begin end last
    (Ok c.add_parts.new.parts.items) (rw fits at c.if-stretch-begin.false) (rw fits at c.if-claim-stretch.false)
    c.in-Ok.ensures

pub returns-in-Err : goal.returns-in-Err
returns-in-Err g c =
    let xs = map g.X.ToExchange.shown c.args.exchanges.now in
    let claim = data_of c.args.claim.now in
    let begin = to_z-of_z w128 c.args.begin c.ranges.begin in
    let fits = to_z-of_z w128 c.from.result (record { sfits = c.from.type_inv }) in
    let end = fits ∙ c.from.ensures in
    let last = last_kept claim c.args.claim.now.lawful in
    uncut claim xs (has c.args.out) c.args.begin (piece_data c.args.piece.now) _ _ _ begin end last
    (Err c.in-Err.why) (rw fits at c.if-stretch-begin.false) (rw fits at c.if-claim-stretch.false) c.in-Err.ensures
