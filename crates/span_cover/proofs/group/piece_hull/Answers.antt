use Rattle.span_cover.proofs.Common.{◌∙◌, sym, arith, group_interval}
use Rattle.std.proofs.lemmas.Grind.{common_steps}
use Rattle.span_cover.proofs.GroupIntervals.{with_interval, without_interval}
use Rattle.span_cover.proofs.group.piece_hull.Goals as goal
use Rattle.span_cover.proofs.group.piece_hull.Goals.{in-Some, in_default}

pub loop-group-preserved : goal.loop-group-preserved
loop-group-preserved c =
    let h = group_interval c.args.groups.now c.args.parts.now in
    elim c.match-group_interval.branch [
      | in-Some w ↦
          let step = with_interval h c.loop-group.group w.in-Some.interval (sym c.group_interval.ensures
          ∙ w.in-Some.is) in
          record { so_far = cc; fits = grind (arith, common_steps) }
      | in_default w ↦
          let step = without_interval h c.loop-group.group (sym c.group_interval.ensures ∙ w.in_default.is) in
          record { so_far = cc; fits = grind (arith, common_steps) }
    ]
