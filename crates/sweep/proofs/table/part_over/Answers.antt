use Rattle.sweep.proofs.Common.{refl, to_z-of_z, w128, Low, High, Part, IsStretchOf, UnsignedStretch}
use Rattle.sweep.proofs.ExtremeList.{lawful_extremes}
use Rattle.sweep.proofs.Level.{interval_is, part_is}
use Rattle.sweep.proofs.StretchList.{lawful_stretch}
use Rattle.sweep.proofs.table.part_over.Goals as goal

pub returns : goal.returns
returns c samples is =
    let server = c.args.table.now.server in
    let stretch : UnsignedStretch = record { begin = c.from_origin.result; end = c.from_origin-2.result } in
    let at : IsStretchOf c.args.begin c.args.end stretch = record {
      begin = rw (to_z-of_z w128 c.args.begin c.ranges.begin) at c.from_origin.ensures;
      end = rw (to_z-of_z w128 c.args.end c.ranges.end) at c.from_origin-2.ensures;
    } in
    let part : Part = record { server = server; interval = c.interval_between.result } in
    part_is samples c.args.begin c.args.end c.args.drift_ppb server part refl
    (interval_is samples server c.args.begin c.args.end c.args.drift_ppb
    stretch at (lawful_stretch c.args.begin c.args.end stretch c.requires.piece at) c.level_over-low.result
    c.level_over-high.result c.interval_between.result c.interval_between.ensures.lo c.interval_between.ensures.hi
    is.lows.extremes is.highs.extremes is.lows.are is.highs.are is.lows.some
    (c.level_over-low.ensures.level is.lows.extremes is.lows.maxima_are
    (lawful_extremes Low samples server is.lows.extremes is.lows.are) is.lows.some)
    (c.level_over-high.ensures.level is.highs.extremes is.highs.maxima_are
    (lawful_extremes High samples server is.highs.extremes is.highs.are) is.highs.some))
