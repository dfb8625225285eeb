use Rattle.std.proofs.Common.{◌≡◌, map, take}
use Rattle.sweep.proofs.extreme.servers_of.Given as goal

abbrev pub invariant-loop-number : goal.invariant-loop-number
invariant-loop-number g l =
    l.servers.items ≡ map (λ sample. sample.server) (take l.number (g.S.SampleSource.samples l.samples))
