use Rattle.std.proofs.Common.{◌∙◌, ap, subst, sym}
use Rattle.command_line.specs.Common.{Places, world}
use Rattle.command_line.specs.Proven.{AreKnown, IsProvenBySums}
use Rattle.command_line.proofs.Proven.{by_known, by_sums, by_words}
use Rattle.command_line.proofs.laws.status_of_check_is_the_theorem.Goals as goal

pub returns-clause-summed : goal.returns-clause-summed
returns-clause-summed c words places path files call given ends =
    let before = world files ends.runs.out ends.runs.err in
    let after = world ends.files' ends.runs.out' ends.runs.err' in
    by_words (IsProvenBySums places files) places before after ends.response ends.status_is
    (λ paths are answered. subst (λ (p : Places). IsProvenBySums p files) are
    (by_sums c.check_is_the_theorem.ensures.yes paths before after ends.response ends.status_is path
    (ap (λ (p : Places). p.sums) are ∙ given) answered)) words call ends.runs.runs

pub returns-clause-known : goal.returns-clause-known
returns-clause-known c words places claim certificate capture files call known are_bytes ends =
    let before = world files ends.runs.out ends.runs.err in
    let after = world ends.files' ends.runs.out' ends.runs.err' in
    by_words _ places before after ends.response ends.status_is
    (λ paths are answered. by_known c.check_is_the_theorem.ensures.yes paths before after ends.response
    ends.status_is claim certificate capture
    (subst (λ (p : Places). AreKnown p files claim certificate capture) (sym are) known) are_bytes answered)
    words call ends.runs.runs
