use Rattle.sweep.proofs.Common.{rules, IsNonDecreasingBy-from_sort_by_key, seen}
use Rattle.sweep.proofs.ArrivalOrder.{IsQueueOf-sorted}
use Rattle.sweep.proofs.queue.queue_of.Goals as goal

pub returns : goal.returns
returns c =
    IsQueueOf-sorted c.args.drift_ppb c.args.backwards (seen c.args.backwards c.args.extremes.now)
    c.in_ok-queue.queue.items c.sort_by_key.new.self.items
    c.in_ok-queue.ensures c.sort_by_key.ensures.permutation
    (IsNonDecreasingBy-from_sort_by_key (λ a. a.at) _ c.in_ok-sort_by_key.ensures.sorted (λ a r q k. search rules))
