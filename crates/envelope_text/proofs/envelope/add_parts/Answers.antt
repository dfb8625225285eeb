use Rattle.envelope_text.proofs.Common.{data_of, piece_data, server_line}
use Rattle.audit_text.proofs.Lines.{listed_more, listed_all}
use Rattle.envelope_text.proofs.envelope.add_parts.Goals as goal

pub loop-part-preserved : goal.loop-part-preserved
loop-part-preserved c =
    let old = c.loop-part.text.items in
    listed_more (server_line c.args.style (data_of c.args.claim.now) c.args.number (piece_data c.args.piece.now))
    c.args.parts.now c.loop-part.part-index _
    c.loop-part-test.true c.args.text.now.items old c.add_part.new.text.items
    c.in_ok-add_part.ensures c.loop-part.invariant

pub returns : goal.returns
returns c =
    listed_all (server_line c.args.style (data_of c.args.claim.now) c.args.number (piece_data c.args.piece.now))
    c.args.parts.now c.loop-part.part-index
    c.loop-part-test.false c.args.text.now.items c.loop-part.text.items c.loop-part.invariant
