use Rattle.pairing.proofs.Common.{◌<◌, ◌+◌, arith, refl, drop_more_same, drop-set-lt, get, most_exchanges, same_key}
use Rattle.pairing.proofs.JoinInPlace.{found_beyond, joined-found, joined-refused}
use Rattle.pairing.proofs.join.join.Goals as goal
use Rattle.pairing.proofs.join.join.Goals.{in-Ok+else-kept-eq-MAX_EXCHANGES, in-Err}

pub returns-then-kept-eq-MAX_EXCHANGES-clause-fault :
    goal.returns-then-kept-eq-MAX_EXCHANGES-clause-fault
returns-then-kept-eq-MAX_EXCHANGES-clause-fault c =
    let look_up = get same_key c.args.index.now.places in
    let l = c.loop-number in (
      refl,
      found_beyond look_up c.args.counts.now l.counts c.args.exchanges.now l.exchanges l.number l.kept
          l.invariant.joined l.invariant.rest c.loop-number-test.true c.in-Ok.request c.in-Ok.ensures
          (omega (arith, l.invariant.within, c.loop-number-test.true, l.auto.exchanges)) most_exchanges
          c.if-kept-eq-MAX_EXCHANGES.true,
    )

pub loop-number-preserved : goal.loop-number-preserved
loop-number-preserved c =
    let look_up = get same_key c.args.index.now.places in
    let l = c.loop-number in
    let within : l.kept < l.number + 1 = omega (arith, l.invariant.within) in
    let rest = drop_more_same l.exchanges c.args.exchanges.now l.number l.invariant.rest in
    elim c.match-find_request.branch [
      | in-Ok+else-kept-eq-MAX_EXCHANGES w ↦ record {
        joined = rw (w.kept-is, w.exchanges-is, w.counts-is, w.accept.ensures)
            (joined-found look_up c.args.counts.now l.counts c.args.exchanges.now l.exchanges l.number l.kept
            l.invariant.joined l.invariant.rest c.loop-number-test.true w.in-Ok.request w.in-Ok.ensures
            (omega (arith, l.invariant.within, c.loop-number-test.true, l.auto.exchanges)));
        rest = rw (w.exchanges-is, drop-set-lt) rest;
        within = omega (arith, w.kept-is, l.invariant.within);
        few = omega (arith, w.kept-is, l.invariant.few, w.if-kept-eq-MAX_EXCHANGES.false);
      }
      | in-Err w ↦ record {
        joined = rw (w.kept-is, w.exchanges-is, w.counts-is, w.refuse.ensures)
            (joined-refused look_up c.args.counts.now l.counts c.args.exchanges.now l.exchanges l.number l.kept
            l.invariant.joined l.invariant.rest c.loop-number-test.true w.in-Err.refusal w.in-Err.ensures);
        rest = rw w.exchanges-is rest;
        within = omega (arith, w.kept-is, l.invariant.within);
        few = omega (arith, w.kept-is, l.invariant.few);
      }
    ]
