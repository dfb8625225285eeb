use Rattle.std.proofs.Common.{◌≡◌, ◌++◌, length, option_map}
use Rattle.sum_file.specs.Name as spec
use Rattle.sum_file.proofs.name.unescaped.Given as goal

abbrev pub invariant-loop-byte : goal.invariant-loop-byte
invariant-loop-byte l = spec.unescaped l.shown ≡ option_map (λ more. l.name.items ++ more) (spec.unescaped l.rest)

abbrev pub decreases-loop-byte : goal.decreases-loop-byte
decreases-loop-byte l = length l.rest
