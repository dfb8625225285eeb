use Rattle.std.proofs.Common.{true, false, sym, ◌∙◌}
use Rattle.json_text.proofs.Names.{members_among-object}
use Rattle.json_text.proofs.member.members_among.Goals as goal

pub returns-then-has_only : goal.returns-then-has_only
returns-then-has_only c =
    members_among-object c.args.names.now c.in_ok-members.members.now.entries _ true c.in_ok-members.ensures
    (sym c.if-has_only.true ∙ c.has_only.ensures)

pub returns-else-has_only : goal.returns-else-has_only
returns-else-has_only c =
    members_among-object c.args.names.now c.in_ok-members.members.now.entries _ false c.in_ok-members.ensures
    (sym c.if-has_only.false ∙ c.has_only.ensures)
