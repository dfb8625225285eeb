use Rattle.std.proofs.Common.{◌≡◌, ℕ, take}
use Rattle.std.specs.List.{list_any}
use Rattle.std.specs.Prelude.{◌==◌}
use Rattle.feasibility.specs.Members.{has}
use Rattle.cover_checker.proofs.case.set_of.Given as goal

abbrev pub invariant-loop-group : goal.invariant-loop-group
invariant-loop-group l =
    (k : ℕ) → has l.set k ≡ list_any (λ g. g == k) (take l.group-index l.case.groups.items)
