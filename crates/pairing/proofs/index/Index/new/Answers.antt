use Rattle.pairing.proofs.Common.{subst, sym, take, take_all, take_more, get, Finds, same_key}
use Rattle.pairing.proofs.index.Index.new.Goals as goal

pub loop-request-preserved : goal.loop-request-preserved
loop-request-preserved c =
    let requests = c.args.requests.now in
    let number = c.loop-request.request-index in
    subst (Finds (get same_key c.note.new.self.places)) (sym (take_more requests number _ c.loop-request-test.true))
    (c.in_ok-note.ensures (take number requests) c.loop-request.invariant)

pub returns : goal.returns
returns c = rw (← take_all c.loop-request.request-index c.args.requests.now c.loop-request-test.false) c.loop-request.invariant
