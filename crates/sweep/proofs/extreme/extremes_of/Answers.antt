use Rattle.sweep.proofs.Common.{◌<◌, ◌≢◌, get_or, pos, length, arith, sym, ◌∙◌, slice_get-get_or, common_steps, Sample, Low, High, All-slice_get}
use Rattle.sample_interval.specs.Sample.{IsLawfulSample}
use Rattle.sweep.proofs.ExtremeList.{as_many_servers, server_at}
use Rattle.sweep.proofs.ExtremeList.{ExtremesSoFar-more, ExtremesSoFar-other, ExtremesSoFar-all, lawful_extremes}
use Rattle.sweep.proofs.extreme.extremes_of.Goals as goal
use Rattle.sweep.proofs.extreme.extremes_of.Goals.{then-of-server+in_ok-push+in_ok-push-2, else-of-server}

none : Sample
none = record {
  server = 0;
  low = pos 0;
  low_from = pos 0;
  low_to = pos 0;
  high = pos 0;
  high_from = pos 0;
  high_to = pos 0;
}

pub extreme_of-requires : goal.extreme_of-requires
extreme_of-requires g c =
    All-slice_get IsLawfulSample (g.S.SampleSource.samples c.args.samples) c.loop-number.number _ c.requires.samples
    c.sample_at-sample.ensures

pub extreme_of-requires-then-of-server : goal.extreme_of-requires-then-of-server
extreme_of-requires-then-of-server g c =
    All-slice_get IsLawfulSample (g.S.SampleSource.samples c.args.samples) c.loop-number.number _ c.requires.samples
    c.sample_at-sample.ensures

pub sample_at-sample-requires : goal.sample_at-sample-requires
sample_at-sample-requires g c =
    let as_many = as_many_servers (g.S.SampleSource.samples c.args.samples) c.args.servers.now c.requires.servers in
    omega arith

pub loop-number-preserved : goal.loop-number-preserved
loop-number-preserved g c =
    let samples = g.S.SampleSource.samples c.args.samples in
    let servers = c.args.servers.now in
    let number = c.loop-number.number in
    let lows = c.loop-number.invariant.lows in
    let highs = c.loop-number.invariant.highs in
    let as_many = as_many_servers samples servers c.requires.servers in
    let within : number < length samples = omega arith in
    elim c.if-of-server.branch [
      | then-of-server+in_ok-push+in_ok-push-2 w ↦
          let here = w.sample_at-sample.ensures in
          let own = sym (server_at samples servers c.requires.servers number _ _ here) ∙ w.if-of-server.true in
          let lawful = All-slice_get IsLawfulSample samples number _ c.requires.samples here in
          record {
            lows = rw (w.lows-is, w.in_ok-push.ensures.items)
                (ExtremesSoFar-more Low samples c.args.server number c.loop-number.lows.items lows _ w.extreme_of.result
                here own lawful w.extreme_of.ensures.number w.extreme_of.ensures.is);
            highs = rw (w.highs-is, w.in_ok-push-2.ensures.items)
                (ExtremesSoFar-more High samples c.args.server number c.loop-number.highs.items highs _
                w.extreme_of-then-of-server.result here own lawful w.extreme_of-then-of-server.ensures.number
                w.extreme_of-then-of-server.ensures.is);
            as_many = grind (arith, common_steps);
          }
      | else-of-server w ↦
          let here = slice_get-get_or samples number none within in
          let of = server_at samples servers c.requires.servers number _ _ here in
          let other : (get_or samples number none).server ≢ c.args.server =
          λ same. w.if-of-server.false (of ∙ same) in
          record {
            lows = rw w.lows-is
                (ExtremesSoFar-other Low samples c.args.server number c.loop-number.lows.items lows _ here other);
            highs = rw w.highs-is
                (ExtremesSoFar-other High samples c.args.server number c.loop-number.highs.items highs _ here other);
            as_many = grind (arith, common_steps);
          }
    ]

pub returns-clause-lows : goal.returns-clause-lows
returns-clause-lows g c =
    let as_many = as_many_servers (g.S.SampleSource.samples c.args.samples) c.args.servers.now c.requires.servers in
    ExtremesSoFar-all Low _ _ _ _ c.loop-number.invariant.lows (omega arith)

pub returns-clause-highs : goal.returns-clause-highs
returns-clause-highs g c =
    let as_many = as_many_servers (g.S.SampleSource.samples c.args.samples) c.args.servers.now c.requires.servers in
    ExtremesSoFar-all High _ _ _ _ c.loop-number.invariant.highs (omega arith)

pub returns-clause-lawful : goal.returns-clause-lawful
returns-clause-lawful g c = (
  lawful_extremes Low _ _ _ (returns-clause-lows g c),
  lawful_extremes High _ _ _ (returns-clause-highs g c),
)
