use Rattle.feasibility.proofs.Common.{rules, ◌∙◌, map, sym, subst, All, All-push, data_of as claim_data, IsNumbered, AreNumberedOf}
use Rattle.feasibility.proofs.Numbering.{one_longer, one_more_in_order}
use Rattle.feasibility.proofs.PartialTables.{up_to_end}
use Rattle.feasibility.proofs.numbered_marks.numbered_by_group.Goals as goal

pub loop-group-init : goal.loop-group-init
loop-group-init g c = search rules

pub loop-group-preserved : goal.loop-group-preserved
loop-group-preserved g c =
    let of = AreNumberedOf (claim_data c.args.claim.now) (map g.X.ToExchange.shown c.args.exchanges.now) in
    let before = c.loop-group.invariant in
    let old = c.loop-group.marks.items in
    let last = c.in_ok-of_group.of_group in
    let new = c.push.new.self.items in
    let grows = c.in_ok-push.ensures.items in
    record {
      count = one_longer of old last new grows c.loop-group.group before.count;
      numbered = subst (All IsNumbered) (sym grows)
          (All-push IsNumbered old last before.numbered c.in_ok-of_group.ensures.numbered);
      each = one_more_in_order of old last new grows c.loop-group.group before.count before.each
          c.in_ok-of_group.ensures.exact;
    }

pub returns : goal.returns
returns g c = record {
  count = c.loop-group.invariant.count
      ∙ up_to_end c.loop-group.group c.len-group-end.result _ c.loop-group-test.false c.loop-group.auto.group-end
      (c.len-group-end.ensures ∙ c.args.claim.now.servers.ok.0);
  numbered = c.loop-group.invariant.numbered;
  each = c.loop-group.invariant.each;
}
