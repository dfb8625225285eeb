use Rattle.program.proofs.Over.{read_over}
use Rattle.program.proofs.run.when_by.Goals as goal

pub returns : goal.returns
returns g c = record {
  claim_after = _;
  capture_after = _;
  has_read = λ sink sink'. read_over g.N.Feed.state (c.read_when-when.ensures.has_read sink sink');
  when = c.read_when-when.ensures.when;
  refused = c.read_when-when.ensures.refused;
  unwritten = c.read_when-when.ensures.unwritten;
}
