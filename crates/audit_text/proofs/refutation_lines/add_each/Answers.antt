use Rattle.audit_text.proofs.Common.{data_of, liar_line}
use Rattle.audit_text.proofs.Lines.{listed_more, listed_all}
use Rattle.audit_text.proofs.refutation_lines.add_each.Goals as goal

pub loop-liar-preserved : goal.loop-liar-preserved
loop-liar-preserved c =
    listed_more (liar_line (data_of c.args.claim.now)) c.args.liars.now c.loop-liar.liar-index _
    c.loop-liar-test.true c.args.text.now.items c.loop-liar.text.items c.add_liar.new.text.items
    c.in_ok-add_liar.ensures c.loop-liar.invariant

pub returns : goal.returns
returns c =
    listed_all (liar_line (data_of c.args.claim.now)) c.args.liars.now c.loop-liar.liar-index
    c.loop-liar-test.false c.args.text.now.items c.loop-liar.text.items c.loop-liar.invariant
