use Rattle.finder.proofs.Common.{◌≡◌, ◌∙◌, ◌<◌, length, sym, ap, arith, to_z, of_z, w128, best_part}
use Rattle.finder.proofs.PartList.{one_stands, none_stands}
use Rattle.finder.proofs.tick_parts.best_parts.Goals as goal
use Rattle.finder.proofs.tick_parts.best_parts.Goals.{in-Some, in_default}

pub loop-server-preserved : goal.loop-server-preserved
loop-server-preserved g c =
    let claim = c.args.claim.now in
    let samples = g.S.SampleSource.samples c.args.samples in
    let says = best_part samples claim.drift_ppb (to_z w128 (of_z w128 c.args.tick)) in
    let server = c.loop-server.server in
    let within : server < length claim.servers.items =
    omega (arith, c.loop-server-test.true, c.len-server-end.ensures, c.args.claim.now.lawful.few_servers) in
    let is : c.part_at.result ≡ says server = c.part_at.ensures.exact samples _ _ c.best_at-best.ensures in
    elim c.match-part_at.branch [
      | in-Some w ↦
          one_stands says (length claim.servers.items) server within c.loop-server.parts.items _ w.in-Some.part
          c.loop-server.invariant (sym is ∙ w.in-Some.is) w.in-Some.ensures.of_server
          (ap (λ v. v.items) w.parts-is ∙ w.push.ensures.items)
      | in_default w ↦
          none_stands says (length claim.servers.items) server within c.loop-server.parts.items _
          c.loop-server.invariant (sym is ∙ w.in_default.is) (ap (λ v. v.items) w.parts-is)
    ]
