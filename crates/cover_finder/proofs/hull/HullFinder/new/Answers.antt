use Rattle.cover_finder.proofs.hull.HullFinder.new.Goals as goal

pub returns : goal.returns
returns g c = record {
  of_claim = c.in_ok-tables.ensures.listed;
  cases = c.in_ok-cases.ensures;
  tables = c.in_ok-tables.ensures.are;
}
