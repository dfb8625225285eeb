use Rattle.span_cover.proofs.Common.{◌≡◌, ◌<◌, ℕ, Some, slice_get, group_of, Part}
use Rattle.span_cover.proofs.group.are_their_own.Given as goal

abbrev pub invariant-loop-place : goal.invariant-loop-place
invariant-loop-place l =
    (place : ℕ) (part : Part) → place < l.place → slice_get l.parts place ≡ Some part
    → group_of l.groups part ≡ place
