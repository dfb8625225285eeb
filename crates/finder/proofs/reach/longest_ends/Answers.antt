use Rattle.claim_file.specs.Claim.{data_of}
use Rattle.finder.proofs.LongestPiece.{all_taken, before_last, last_is, one_longer, reach_begins, reach_more}
use Rattle.finder.proofs.Common.{◌∙◌, to_z-of_z, w128}
use Rattle.finder.proofs.reach.longest_ends.Goals as goal

pub loop-pace-preserved : goal.loop-pace-preserved
loop-pace-preserved c =
    let claim = data_of c.args.claim.now in
    let some = c.requires.tables in
    let long = c.in-Ok.ensures some.0 some.1 in
    let within = long.in_span in
    let kept = to_z-of_z w128 c.from.result (record { sfits = c.from.type_inv }) ∙ c.from.ensures in
    record {
      longest = λ samples tabled. reach_more samples claim c.loop-pace.ends.items c.push.new.self.items
          c.loop-pace.begin c.in-Ok.end _ (c.loop-pace.invariant.longest samples tabled)
          c.loop-pace.invariant.begins (c.in-Ok.ensures samples tabled) kept c.in_ok-push.ensures.items
          (before_last c.in-Ok.end _ c.args.claim.now.last within (last_is claim c.args.claim.now.lawful)
          c.if-begin-last.false);
      begins = reach_begins some.0 claim c.loop-pace.ends.items c.push.new.self.items
          c.loop-pace.begin c.in-Ok.end _ (c.loop-pace.invariant.longest some.0 some.1)
          c.loop-pace.invariant.begins long kept c.in_ok-push.ensures.items;
      within = within;
      few = one_longer c.loop-pace.ends c.len.result c.len.ensures c.push.new.self.items _ c.loop-pace-test.true
          c.in_ok-push.ensures.items;
    }

pub returns : goal.returns
returns c samples tabled =
    let few = c.loop-pace.invariant.few in (
      record {
        earlier = c.loop-pace.ends.items;
        longest = c.loop-pace.invariant.longest samples tabled;
        as_many = all_taken c.loop-pace.ends c.len.result c.len.ensures c.loop-pace-test.false few;
      },
      c.loop-pace.invariant.begins,
    )
