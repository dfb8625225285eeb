use Rattle.feasibility.proofs.Common.{rules, ◌∙◌, map, data_of as claim_data, AreMarksOf}
use Rattle.feasibility.proofs.Numbering.{one_longer, one_more_in_order}
use Rattle.feasibility.proofs.PartialTables.{up_to_end}
use Rattle.feasibility.proofs.sorted_marks.marks_by_group.Goals as goal

pub loop-group-init : goal.loop-group-init
loop-group-init g c = search rules

pub loop-group-preserved : goal.loop-group-preserved
loop-group-preserved g c =
    let of = AreMarksOf (claim_data c.args.claim.now) (map g.X.ToExchange.shown c.args.exchanges.now) in
    let before = c.loop-group.invariant in
    let grows = c.in_ok-push.ensures.items in
    record {
      count = one_longer of _ _ _ grows c.loop-group.group before.count;
      each = one_more_in_order of _ _ _ grows c.loop-group.group before.count before.each c.in_ok-of_group.ensures;
    }

pub returns-clause-count : goal.returns-clause-count
returns-clause-count g c =
    c.loop-group.invariant.count
    ∙ up_to_end c.loop-group.group c.len-group-end.result _ c.loop-group-test.false c.loop-group.auto.group-end
    (c.len-group-end.ensures ∙ c.args.claim.now.servers.ok.0)

pub returns-clause-each : goal.returns-clause-each
returns-clause-each g c = c.loop-group.invariant.each
