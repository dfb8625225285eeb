use Rattle.audit.proofs.Common.{Err, List, ℕ, sym, subst, IfSome, TakesFrom-at_most, TakesFrom-trans, compact_data, RunFault, Reads, capture_read}
use Rattle.claim_file.specs.Claim.{data_of}
use Rattle.audit.proofs.Capture.{capture_is_read, capture_unread}
use Rattle.audit.proofs.capture_input.read_capture_from.Goals as goal

pub returns-in-Ok-collected-clause-known : goal.returns-in-Ok-collected-clause-known
returns-in-Ok-collected-clause-known g c =
    capture_is_read (data_of c.args.claim.now) _ _ c.in-Ok-collected.held
    c.in-Ok.ensures.begins.known c.in-Ok-collected.ensures.exact

pub returns-in-Ok-collected-clause-at_most : goal.returns-in-Ok-collected-clause-at_most
returns-in-Ok-collected-clause-at_most g c =
    TakesFrom-at_most _ _ _
    (TakesFrom-trans _ _ _ c.in-Ok.ensures.begins.takes c.collect_compact-collected.ensures.leaves.takes)
    c.into_feed-feed.ensures.known c.into_feed-feed.ensures.counted

pub returns-in-Err-collected-clause-known : goal.returns-in-Err-collected-clause-known
returns-in-Err-collected-clause-known g c =
    let known = (g.F.Feed.state c.args.feed).remaining in
    let claim = data_of c.args.claim.now in
    subst (λ (f : RunFault). IfSome known (λ (b : List ℕ). Reads compact_data (capture_read claim b) (Err f)))
    (sym c.run_fault_of.ensures)
    (capture_unread claim _ _ c.in-Err-collected.fault c.in-Ok.ensures.begins.known c.in-Err-collected.ensures.exact)

pub returns-in-Err-collected-clause-at_most : goal.returns-in-Err-collected-clause-at_most
returns-in-Err-collected-clause-at_most g c =
    TakesFrom-at_most _ _ _
    (TakesFrom-trans _ _ _ c.in-Ok.ensures.begins.takes c.collect_compact-collected.ensures.leaves.takes)
    c.into_feed-feed.ensures.known c.into_feed-feed.ensures.counted
