use Rattle.feasibility.proofs.Covers.{agree_outside, cover_by_agreement, few_by_cover}
use Rattle.feasibility.proofs.laws.covers_leave_agreement.Goals as goal

pub returns : goal.returns
returns c = record { agree = agree_outside; few = few_by_cover; needed = cover_by_agreement }
