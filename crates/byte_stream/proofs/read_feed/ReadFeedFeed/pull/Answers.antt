use Rattle.std.proofs.Common.{◌+◌, ℕ, ap, ◌∙◌, rules}
use Rattle.byte_stream.proofs.read_feed.ReadFeedFeed.pull.Goals as goal
use Rattle.byte_stream.proofs.read_feed.ReadFeedFeed.pull.Goals.{else-loop-try-test, then-loop-try-test+in-Err+then-ne}

pub loop-try-preserved : goal.loop-try-preserved
loop-try-preserved g c = record {
  length_kept = search rules;
  bytes = search rules;
  untaken = c.loop-try.invariant.untaken;
  unfailed = c.loop-try.invariant.unfailed;
}

pub overflow_add-self : goal.overflow_add-self
overflow_add-self g c = elim c.loop-try-test.branch [
  | else-loop-try-test w ↦ search rules
  | then-loop-try-test+in-Err+then-ne w ↦ search rules
]

pub returns-clause-counts_fault : goal.returns-clause-counts_fault
returns-clause-counts_fault g c = elim c.loop-try-test.branch [
  | else-loop-try-test w ↦ ap (λ s. s.faults + 1) w.self-is ∙ ap (λ (n : ℕ). n + 1) c.loop-try.invariant.unfailed
  | then-loop-try-test+in-Err+then-ne w ↦
      ap (λ s. s.faults + 1) w.self-is ∙ ap (λ (n : ℕ). n + 1) c.loop-try.invariant.unfailed
]
