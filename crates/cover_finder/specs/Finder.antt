-- What finds hulls by covers.
use Rattle.std.specs.Prelude.{List, length}
use Rattle.cover_finder.specs.Common.{ClaimData, Exchange}
use Rattle.cover_finder.specs.Hull.{AreCasesOfCovers}
use Rattle.cover_finder.specs.Table.{AreListed, AreTablesOf}
use Rattle.cover_finder.specs.declared.hull.HullFinder.{HullFinder}

-- it has tables of servers that the claim lists
abbrev pub IsFinderOf : ClaimData → HullFinder → Type 0
IsFinderOf claim finder = AreListed (length claim.groups) finder.tables.items

-- it has the cases of the minimal covers, and tables of all marks of these exchanges
pub record IsFinderFor (claim : ClaimData) (xs : List Exchange) (finder : HullFinder) : Type 0 where
  pub of_claim : IsFinderOf claim finder
  pub cases : AreCasesOfCovers claim xs finder.cases.items
  pub tables : AreTablesOf claim xs finder.tables.items
