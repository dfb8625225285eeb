use Rattle.error_marks.proofs.Common.{rules, answers_always}
use Rattle.error_marks.proofs.Order.{in_order}
use Rattle.error_marks.proofs.compatible.sort_marks.Goals as goal

pub returns-clause-order : goal.returns-clause-order
returns-clause-order c =
    in_order c.sort_unstable_by_key.new.self
    (c.sort_unstable_by_key.ensures.sorted (λ m. m.place) (answers_always _ _ _ (λ f a r g h. search rules)))
