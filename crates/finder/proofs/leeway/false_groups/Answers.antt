use Rattle.finder.proofs.Common.{◌≡◌, ℕ, ◌-◌, ◌≤◌, subst, ap, ◌∙◌, arith, holds, IsNarrowed}
use Rattle.finder.proofs.GroupLeeway.{all_limited, none_added, one_added}
use Rattle.finder.proofs.leeway.false_groups.Goals as goal
use Rattle.finder.proofs.leeway.false_groups.Goals.{in-Some, in_default}

pub loop-added-init : goal.loop-added-init
loop-added-init c = none_added c.args.leeways.now (holds c.args.cover)

pub loop-added-preserved : goal.loop-added-preserved
loop-added-preserved c =
    let leeways = c.args.leeways.now in
    let cover = holds c.args.cover in
    let n = c.loop-added._added in
    let found = holds c.loop-added.found in
    let before = c.loop-added.invariant in
    elim c.match-tightest.branch [
      | in-Some w ↦
          rw w.found-is (one_added leeways cover n found before w.in-Some.group (holds w.with-found.result)
          w.in-Some.ensures w.with-found.ensures)
      | in_default w ↦ rw w.found-is (all_limited leeways cover n found before w.in_default.ensures)
    ]

at_end : (a b c : ℕ) → a ≤ b → b ≤ a → b ≡ c → a ≡ c
at_end a b c le past is = omega arith

pub returns : goal.returns
returns c =
    subst (λ (n : ℕ). IsNarrowed c.args.leeways.now n (holds c.args.cover) (holds c.loop-added.found))
    (at_end c.loop-added._added c.saturating_sub-added-end.result _ c.loop-added.auto._added-end c.loop-added-test.false
    (c.saturating_sub-added-end.ensures ∙ ap (λ (n : ℕ). c.args.claim.now.false_max - n) c.count.ensures.exact))
    c.loop-added.invariant
