use Rattle.std.proofs.Common.{◌≡◌, drop}
use Rattle.program.specs.Table.{standing_in}
use Rattle.program.proofs.table.TableFiles.open.Given as goal

-- nothing with this path stands before
abbrev pub invariant-loop-place : goal.invariant-loop-place
invariant-loop-place l =
    standing_in l.path (drop l.place-index l.places) ≡ standing_in l.path l.places
