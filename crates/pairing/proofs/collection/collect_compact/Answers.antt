use Rattle.claim_file.specs.Claim.{data_of}
use Rattle.pairing.proofs.Completion.{answer-whole, joining-room, lawful-whole, leaves-whole}
use Rattle.pairing.proofs.collection.collect_compact.Goals as goal

pub finish-requires : goal.finish-requires
finish-requires g c =
    let whole = c.in_ok-gather.ensures.whole in
    let gathering = c.gather.new.gathering in
    let claim = data_of c.args.claim.now in
    rw gathering.exchanges.ok.0 (joining-room claim whole.records gathering.requests.items
    gathering.exchanges.items gathering.counts whole.given.few whole.gathered)

pub returns : goal.returns
returns g c =
    let whole = c.in_ok-gather.ensures.whole in
    let claim = data_of c.args.claim.now in
    let start = g.S.RecordSource.state c.args.source.now in
    let exact = c.finish.ensures claim whole.records whole.gathered in
    record {
      exact = answer-whole claim start.remaining whole.records c.finish.result whole.known exact;
      lawful = lawful-whole claim whole.records c.finish.result
          (c.exchanges_keep_their_limits.ensures claim whole.records whole.given) exact;
      leaves = leaves-whole claim whole.records start
          (g.S.RecordSource.state c.gather.new.source) c.finish.result c.in_ok-gather.ensures.leaves exact;
    }
