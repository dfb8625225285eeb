-- How far the longest pieces of a span reach. Only the code's own contracts speak of it.
use Rattle.std.specs.Prelude.{◌≡◌, ◌<◌, ◌≤◌, ℤ, pos, List, [], ◌∷◌, ◌++◌, length}
use Rattle.finder.specs.Common.{max_pieces, ClaimData, Sample, AreTablesOf, BestTable, AreSamplesOf}
use Rattle.finder.specs.Fewest.{AreLongest, IsLongest, IsStuck, IsTooLong, end_after}
use Rattle.finder.specs.declared.reach.Reach.{Reach}
use Rattle.finder.specs.declared.reach.Reach.TheVariants.{End, Stuck, TooLong}

-- the tables of these samples, which are of the claim's servers
pub record AreTablesFor (samples : List Sample) (claim : ClaimData) (tables : List BestTable)
    : Type 0 where
  pub of_claim : AreSamplesOf claim samples
  pub few : length tables ≤ 32
  pub are : AreTablesOf samples (length claim.servers) claim.drift_ppb tables

-- the tables of some samples
abbrev pub IsTabled : ClaimData → List BestTable → Type 0
IsTabled claim tables = (samples : List Sample) × AreTablesFor samples claim tables

-- these are the ends of the longest pieces, the last of which ends with the span, and no more than
-- a certificate may have
pub record AreEnds (samples : List Sample) (claim : ClaimData) (ends : List ℤ) : Type 0 where
  pub earlier : List ℤ
  pub longest : AreLongest samples claim claim.first earlier
  pub last : IsLongest samples claim (end_after claim.first earlier) claim.last
  pub few : length earlier < max_pieces
  pub are : ends ≡ earlier ++ claim.last ∷ []

abbrev pub IsReach : List Sample → ClaimData → Reach → Type 0
IsReach samples claim (End ends) = AreEnds samples claim ends.items
IsReach samples claim (Stuck begin end hull) = IsStuck samples claim (pos begin) (pos end) hull
IsReach samples claim (TooLong begin) =
    (long : IsTooLong samples claim) × (pos begin ≡ end_after claim.first long.earlier)

-- this holds of whatever samples these are the tables of
abbrev pub OfTables : ClaimData → List BestTable → (List Sample → Type 0) → Type 0
OfTables claim tables P = (samples : List Sample) → AreTablesFor samples claim tables → P samples
