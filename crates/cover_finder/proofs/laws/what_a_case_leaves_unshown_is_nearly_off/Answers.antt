use Rattle.std.proofs.Common.{◌≤◌}
use Rattle.feasibility.specs.Cover.{HoldsNoLess, IsCover}
use Rattle.lemma_base.proofs.List.{All-slice_get}
use Rattle.cover_finder.specs.Common.{Groups, holds, size_of, stretch_over}
use Rattle.cover_finder.proofs.NearlyOff.{nearly_off}
use Rattle.cover_finder.proofs.laws.what_a_case_leaves_unshown_is_nearly_off.Goals as goal

pub returns : goal.returns
returns c claim xs covers k out begin end lawful each are stands from forth to short leaves =
    nearly_off claim xs (stretch_over begin end) lawful each
    (record { from_first = from; forth = forth; to_last = to; short = short })
    c.hulls_hold_the_error.ensures leaves.hull
    (record {
      out = out;
      without = leaves.of;
      cover = All-slice_get (λ (cover : Groups). IsCover claim xs (holds cover)) covers k out are.are stands;
      small = All-slice_get (λ (cover : Groups). size_of claim (holds cover) ≤ claim.false_max) covers k out
          are.few stands;
    })
    (All-slice_get (λ (cover : Groups). HoldsNoLess claim xs (holds cover)) covers k out are.minimal stands)
    leaves.inside
