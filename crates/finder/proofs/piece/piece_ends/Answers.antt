use Rattle.finder.proofs.Common.{rules, le_antisymm, ◌≡◌, [], ◌∷◌, ◌++◌, to_z, of_z, w128, to_z-of_z}
use Rattle.finder.proofs.SpanPieces.{ends_more}
use Rattle.finder.proofs.piece.piece_ends.Goals as goal

pub loop-number-preserved : goal.loop-number-preserved
loop-number-preserved c =
    let pushed : c.push.new.self.items ≡ c.loop-number.ends.items ++ to_z w128 (of_z w128 c.piece_end.result) ∷ [] =
    search rules in
    ends_more (to_z w128 (of_z w128 c.args.first)) (to_z w128 (of_z w128 c.args.last)) c.args.step_s
    c.loop-number.number c.loop-number.ends.items c.push.new.self.items c.piece_end.result _
    c.loop-number.invariant c.piece_end.ensures
    (to_z-of_z w128 c.piece_end.result (record { sfits = c.piece_end.type_inv })) pushed

pub returns : goal.returns
returns c =
    let all : c.loop-number.number ≡ c.args.count =
    le_antisymm c.loop-number.auto.number-end c.loop-number-test.false in
    rw (to_z-of_z w128 c.args.first c.ranges.first, to_z-of_z w128 c.args.last c.ranges.last, all)
    at c.loop-number.invariant
