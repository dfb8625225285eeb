use Rattle.finder.proofs.Common.{length, ap, ◌∙◌, data_of as claim_data, stretch_at}
use Rattle.finder.proofs.EntryList.{entries_there}
use Rattle.finder.proofs.Finding.{hull_is}
use Rattle.finder.proofs.SpanPieces.{piece_of_claim}
use Rattle.finder.proofs.piece_hull.piece_hull_at.Goals as goal

pub parts-parts-requires-clause-stretch : goal.parts-parts-requires-clause-stretch
parts-parts-requires-clause-stretch g c =
    rw c.stretch_at-stretch.ensures
    (piece_of_claim (claim_data c.args.claim.now) c.args.claim.now.lawful c.args.step_s c.args.number)

pub parts-parts-requires-clause-named : goal.parts-parts-requires-clause-named
parts-parts-requires-clause-named g c =
    rw (c.entries_at-entries.ensures ∙ c.requires.best)
    (entries_there (g.S.SampleSource.samples c.args.samples) (claim_data c.args.claim.now)
    (stretch_at (claim_data c.args.claim.now) c.args.step_s c.args.number))

pub piece_hull-hull-requires-clause-listed : goal.piece_hull-hull-requires-clause-listed
piece_hull-hull-requires-clause-listed g c =
    rw (
      c.as_slice.ensures.value,
      ap (λ xs. length xs) c.as_slice-2.ensures.value ∙ c.args.claim.now.lawful.group_for_each,
    ) c.parts-parts.ensures.listed

pub returns : goal.returns
returns g c =
    let stretch = c.stretch_at-stretch.ensures in
    let entries = c.entries_at-entries.ensures ∙ c.requires.best in
    let hull =
    hull_is (g.S.SampleSource.samples c.args.samples) (claim_data c.args.claim.now) c.args.step_s c.args.number _ _ _
    stretch entries
    (rw (c.as_slice.ensures.value, c.as_slice-2.ensures.value, c.parts-parts.ensures.exact) at
    c.piece_hull-hull.ensures) in
    cc
