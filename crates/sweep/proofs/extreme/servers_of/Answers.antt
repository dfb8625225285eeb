use Rattle.sweep.proofs.ExtremeList.{servers_more}
use Rattle.sweep.proofs.extreme.servers_of.Goals as goal

pub loop-number-preserved : goal.loop-number-preserved
loop-number-preserved g c =
    servers_more (g.S.SampleSource.samples c.args.samples) c.loop-number.number c.sample_at.result c.sample_at.ensures
    c.loop-number.servers.items c.push.new.self.items c.loop-number.invariant c.in_ok-push.ensures.items
