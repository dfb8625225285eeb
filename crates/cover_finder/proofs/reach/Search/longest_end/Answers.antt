use Rattle.std.proofs.Common.{false, inl, true, arith}
use Rattle.std.proofs.lemmas.Int.{ints}
use Rattle.cover_finder.specs.Common.{claim_data, holds}
use Rattle.cover_finder.proofs.ReachPieces.{answered, longest_met, no_longer}
use Rattle.cover_finder.proofs.reach.Search.longest_end.Goals as goal

pub loop-low-init : goal.loop-low-init
loop-low-init c = record {
  from_begin = c.requires.next;
  in_order = omega (arith, ints);
  to_last = omega (arith, ints);
  shown = c.requires.shown;
  no_longer = λ xs tables none. inl c.last-high.ensures;
}

pub loop-low-preserved-then-shows : goal.loop-low-preserved-then-shows
loop-low-preserved-then-shows c =
    let so_far = c.loop-low.invariant in
    record {
      from_begin = omega arith;
      in_order = omega arith;
      to_last = so_far.to_last;
      shown = λ xs tables none.
          answered (claim_data c.args.self.now.claim.now) xs (holds c.args.self.now.out) c.args.begin
          c.trial-end.result c.hull-hull.result c.shows.result true (c.hull-hull.ensures xs tables none)
          (c.shows.ensures none) c.if-shows.true;
      no_longer = so_far.no_longer;
    }

pub loop-low-preserved : goal.loop-low-preserved
loop-low-preserved c =
    let so_far = c.loop-low.invariant in
    record {
      from_begin = so_far.from_begin;
      in_order = omega arith;
      to_last = omega (arith, ints);
      shown = so_far.shown;
      no_longer = λ xs tables none.
          let claim = claim_data c.args.self.now.claim.now in
          let out = holds c.args.self.now.out in
          no_longer claim xs out c.args.begin c.loop-low.low c.trial-end.result c.trial-end.ensures.above_low
          (answered claim xs out c.args.begin c.trial-end.result c.hull-hull.result c.shows.result false
          (c.hull-hull.ensures xs tables none) (c.shows.ensures none) c.if-shows.false);
    }

pub returns-clause-longest : goal.returns-clause-longest
returns-clause-longest c xs tables none =
    let so_far = c.loop-low.invariant in
    longest_met (claim_data c.args.self.now.claim.now) xs (holds c.args.self.now.out) c.args.begin c.loop-low.low
    c.loop-low.high (omega arith) (so_far.shown xs tables none) (so_far.no_longer xs tables none)
