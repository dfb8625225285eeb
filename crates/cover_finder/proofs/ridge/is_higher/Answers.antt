use Rattle.std.proofs.Common.{◌-◌, ◌<◌, ◌∙◌, ap, arith, length, sym, rules, Some}
use Rattle.std.proofs.lemmas.Int.{to_z-of_z}
use Rattle.std.proofs.lemmas.Option.{slice_get-get_or}
use Rattle.lemma_base.proofs.Int.{w128_keeps}
use mir.Syntax.{w128}
use Rattle.cover_finder.proofs.Ridges.{not_lower}
use Rattle.cover_finder.proofs.ridge.is_higher.Goals as goal

pub returns-else-is_empty-clause-no_higher : goal.returns-else-is_empty-clause-no_higher
returns-else-is_empty-clause-no_higher c low =
    let peaks = c.args.peaks.now in
    let last = c.index-peaks-peaks.result in
    let some : length peaks - 1 < length peaks = search rules in (
      last,
      slice_get-get_or peaks (length peaks - 1) last some ∙ ap Some (sym c.index-peaks-peaks.is),
      not_lower last.height c.args.height
          (rw (
            sym c.index-peaks-peaks.is,
            w128_keeps last.height (omega (arith, last.in_range)),
            to_z-of_z w128 c.args.height c.ranges.height,
          ) at low),
    )
