use Rattle.std.proofs.Common.{sym}
use Rattle.cover_finder.specs.Common.{claim_data, holds}
use Rattle.cover_finder.proofs.Tables.{said_stays}
use Rattle.cover_finder.proofs.table.Table.said_without.Goals as goal

pub returns-clause-said : goal.returns-clause-said
returns-clause-said c xs is =
    let claim = claim_data c.args.claim.now in
    said_stays claim xs (holds c.args.out) c.args.stretch c.args.self.now c.said.result (sym c.if-is_out.ensures)
    (c.said.ensures.said claim xs is)
