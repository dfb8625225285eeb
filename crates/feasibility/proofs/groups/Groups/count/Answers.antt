use Rattle.feasibility.proofs.Common.{Bool, ◌&&◌, ap, ◌∙◌, nat_lt, has}
use Rattle.feasibility.proofs.CoverCounts.{passing_same}
use Rattle.feasibility.proofs.CoverWithin.{passing_below}
use Rattle.feasibility.proofs.groups.Groups.count.Goals as goal

pub returns : goal.returns
returns c = record {
  exact =
      c.size.ensures
      ∙ passing_same (has c.both.result) (λ k. has c.args.self.now.bits k && nat_lt k c.args.groups)
      (λ k. c.both.ensures k ∙ ap (λ (t : Bool). has c.args.self.now.bits k && t) (c.first.ensures k))
      ∙ passing_below (has c.args.self.now.bits) c.args.groups c.requires;
}
