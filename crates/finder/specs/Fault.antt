-- Why nothing is looked for.
use Rattle.std.specs.Prelude.{ℕ}
use Rattle.finder.specs.declared.fault.FindFault.{FindFault}
use Rattle.finder.specs.declared.fault.FindFault.TheVariants.{TooManyPieces, Memory}

-- the number of each fault
abbrev pub number_of : FindFault → ℕ
number_of TooManyPieces = 1
number_of Memory = 2
