-- The numbers of the faults of a collection.
use Rattle.std.specs.Prelude.{ℕ}
use Rattle.pairing.specs.declared.fault.PairFault.{PairFault}
use Rattle.pairing.specs.declared.fault.PairFault.TheVariants.{Capture, TooManyExchanges, Memory}

-- each fault's number, in the order of the variants
abbrev pub number_of : PairFault → ℕ
number_of (Capture fault) = 1
number_of TooManyExchanges = 2
number_of Memory = 3
