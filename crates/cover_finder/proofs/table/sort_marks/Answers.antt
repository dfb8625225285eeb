use Rattle.std.proofs.Common.{rules}
use Rattle.std.proofs.lemmas.List.Sorted.{answers_always}
use Rattle.cover_finder.proofs.Tables.{in_order}
use Rattle.cover_finder.proofs.table.sort_marks.Goals as goal

pub returns-clause-order : goal.returns-clause-order
returns-clause-order c =
    in_order c.sort_unstable_by_key.new.self
    (c.sort_unstable_by_key.ensures.sorted (λ m. m.mark.place)
    (answers_always _ _ _ (λ f a r g h. search rules)))
