use Rattle.feasibility.proofs.Common.{List, ◌++◌, map, sym, ap, ◌∙◌, data_of as claim_data, is_outside, low_marks, high_marks, Mark}
use Rattle.feasibility.proofs.SortedMarks.{gathered_marks, unsound_marks}
use Rattle.feasibility.proofs.sorted_marks.SortedMarks.of_group.Goals as goal
use Rattle.feasibility.proofs.sorted_marks.SortedMarks.of_group.Goals.{then-is_possible, else-is_possible}

pub returns : goal.returns
returns g c =
    let claim = claim_data c.args.claim.now in
    let xs = map g.X.ToExchange.shown c.args.exchanges.now in
    let group = c.args.group in
    let outside = is_outside claim.groups group in
    let added = c.in_ok-is_possible.ensures in
    elim c.if-is_possible.branch [
      | then-is_possible w ↦
          rw (w.is_sound-is, w.kept-is)
          (gathered_marks claim xs group c.add_group.new.self w.sort_and_compare-is_sound.new.self
          w.sort_and_compare-is_sound.result (sym w.if-is_possible.true ∙ added.possible)
          (added.lows w.if-is_possible.true
          ∙ ap (λ (ms : List Mark). ms ++ low_marks claim.reading outside xs) c.none-kept.ensures.lows)
          (added.highs w.if-is_possible.true
          ∙ ap (λ (ms : List Mark). ms ++ high_marks claim.reading outside xs) c.none-kept.ensures.highs)
          w.sort_and_compare-is_sound.ensures.exact w.sort_and_compare-is_sound.ensures.lows
          w.sort_and_compare-is_sound.ensures.highs w.sort_and_compare-is_sound.ensures.sorted)
      | else-is_possible w ↦
          rw (w.is_sound-is, w.if-is_possible.false, w.kept-is)
          (unsound_marks claim xs group c.add_group.new.self c.add_group.new.self
          (sym w.if-is_possible.false ∙ added.possible))
    ]
