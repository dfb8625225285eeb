use Rattle.certificate.proofs.Common.{rules, items_len-items_view}
use Rattle.certificate.proofs.items.is_at_most.Goals as goal

pub returns : goal.returns
returns c = record {
  exact = rw (items_len-items_view c.args.items.now) (search rules);
  few = search rules;
}
