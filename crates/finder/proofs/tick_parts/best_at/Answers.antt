use Rattle.finder.proofs.Common.{◌<◌, length, arith, IsLawfulSample, All-slice_get}
use Rattle.finder.proofs.List.{take_one_more}
use Rattle.finder.proofs.tick_parts.best_at.Goals as goal

pub take-requires-clause-sample : goal.take-requires-clause-sample
take-requires-clause-sample g c =
    All-slice_get IsLawfulSample (g.S.SampleSource.samples c.args.samples) c.loop-number.number c.sample_at.result
    c.requires.samples.lawful c.sample_at.ensures

pub take-requires-clause-server : goal.take-requires-clause-server
take-requires-clause-server g c =
    let listed : c.sample_at.result.server < length c.args.claim.now.servers.items =
    All-slice_get (λ sample. sample.server < length c.args.claim.now.servers.items)
    (g.S.SampleSource.samples c.args.samples) c.loop-number.number c.sample_at.result
    c.requires.samples.listed c.sample_at.ensures in
    omega (arith, listed, c.args.claim.now.lawful.few_servers)

pub loop-number-preserved : goal.loop-number-preserved
loop-number-preserved g c =
    rw (take_one_more (g.S.SampleSource.samples c.args.samples) c.loop-number.number _ c.sample_at.ensures)
    (c.take.ensures _ _ _ _ c.loop-number.invariant)
