use Rattle.audit_text.proofs.Common.{◌∙◌, ℤ, ap, TimeAbove, for_person, pair_line, stamp_is}
use Rattle.audit_text.proofs.settlement.add_pair.Goals as goal

pub returns : goal.returns
unfolding pair_line
returns c =
    let time : ℤ → _ = λ tick. for_person c.args.style (TimeAbove tick) in
    rw (c.for_person-3.ensures ∙ ap time (stamp_is c.args.low.now.t1_low c.requires.low.t1_low)) at
    (rw (c.for_person-6.ensures ∙ ap time (stamp_is c.args.high.now.t4_low c.requires.high.t4_low)) at
    (rw (c.server_of.ensures, c.server_of-2.ensures, c.from.ensures, c.from-2.ensures, c.for_person.ensures) at
    (rw (c.for_person-2.ensures, c.for_person-4.ensures, c.for_person-5.ensures) at c.add_line.ensures)))
