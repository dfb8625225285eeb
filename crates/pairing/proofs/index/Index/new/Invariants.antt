use Rattle.pairing.proofs.Common.{take, get, Finds, same_key}
use Rattle.pairing.proofs.index.Index.new.Given as goal

abbrev pub invariant-loop-request : goal.invariant-loop-request
invariant-loop-request l = Finds (get same_key l.index.places) (take l.request-index l.requests)
