use Rattle.std.proofs.Common.{sym, ◌∙◌}
use Rattle.claim_file.proofs.Groups.{few_groups}
use Rattle.claim_file.proofs.group.is_grouping.Goals as goal

pub returns-then-known-clause-few : goal.returns-then-known-clause-few
returns-then-known-clause-few c once =
    few_groups c.args.count c.args.groups.now c.args.numbers.now c.requires
    (sym c.none_is_empty-filled.ensures ∙ c.if-known.true.0)
    (sym c.all_are_servers-known.ensures ∙ c.if-known.true.1) (sym c.each_stands_once-once.ensures ∙ once)
