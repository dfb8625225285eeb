use Rattle.true_time.proofs.Common.{◌∙◌, sym, data_of}
use Rattle.finder.proofs.Part.{hull_said}
use Rattle.true_time.proofs.hull.hull_over.Goals as goal

pub returns : goal.returns
returns c samples tabled =
    rw (sym c.as_slice-2.ensures.value, sym c.as_slice.ensures.value) c.piece_hull.ensures
    ∙ hull_said samples (data_of c.args.claim.now) _ c.parts_over-parts.result.items
    (c.parts_over-parts.ensures.exact samples tabled)
