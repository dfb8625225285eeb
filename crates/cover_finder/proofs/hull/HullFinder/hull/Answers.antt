use Rattle.std.proofs.Common.{List, subst, sym}
use Rattle.cover_finder.specs.Common.{Groups, claim_data}
use Rattle.cover_finder.specs.Hull.{IsHullOf}
use Rattle.cover_finder.specs.Table.{AreTablesOf}
use Rattle.cover_finder.proofs.hull.HullFinder.hull.Goals as goal

pub returns : goal.returns
returns c xs is =
    let claim = claim_data c.args.claim.now in
    record {
      cases = c.args.self.now.cases.items;
      of = is.cases;
      hull_of = subst (λ (cs : List Groups). IsHullOf claim xs c.args.stretch cs c.hull_over.result)
          c.as_slice-2.ensures.value
          (c.hull_over.ensures xs (subst (AreTablesOf claim xs) (sym c.as_slice.ensures.value) is.tables));
    }
