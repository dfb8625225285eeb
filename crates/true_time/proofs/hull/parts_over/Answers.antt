use Rattle.true_time.proofs.Common.{length, data_of, ◌∙◌, to_z-of_z, w128}
use Rattle.finder.proofs.Part.{listed_said, parts_said}
use Rattle.true_time.proofs.hull.parts_over.Goals as goal

pub returns : goal.returns
returns c =
    let claim = data_of c.args.claim.now in
    let servers = length claim.servers in
    record {
      exact = λ samples tabled. c.parts_near.ensures samples servers tabled.are
          ∙ rw (
            to_z-of_z w128 c.from-begin.result (record { sfits = c.from-begin.type_inv }) ∙ c.from-begin.ensures,
            to_z-of_z w128 c.from-end.result (record { sfits = c.from-end.type_inv }) ∙ c.from-end.ensures,
          ) (parts_said samples claim _ _);
      listed = rw (
        c.args.claim.now.lawful.group_for_each,
        c.parts_near.ensures c.requires.tables.0 servers c.requires.tables.1.are,
      ) (listed_said c.requires.tables.0 claim _ _ c.requires.tables.1.of_claim);
    }
