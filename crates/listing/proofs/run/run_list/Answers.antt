use Rattle.std.proofs.Common.{rules}
use Rattle.listing.proofs.Common.{arith}
use Rattle.pcap_reader.specs.Source.{TakesFrom-trans, TakesFrom-at_most}
use Rattle.listing.proofs.Refusal.{made_refused, counts_refused, reports_published, reports_of_bytes, reports_refused_memory}
use Rattle.listing.proofs.Refusal.{memory_refused, refused_takes, buffer_takes, whatever_bytes}
use Rattle.listing.proofs.run.run_list.Goals as goal

pub returns-in-Err-clause-reports : goal.returns-in-Err-clause-reports
returns-in-Err-clause-reports g c = reports_refused_memory _ c.publish.ensures

pub returns-in-Ok-begin-clause-reports : goal.returns-in-Ok-begin-clause-reports
returns-in-Ok-begin-clause-reports g c = grind (arith, reports_of_bytes)

pub returns-in-Ok-begin-clause-at_most : goal.returns-in-Ok-begin-clause-at_most
returns-in-Ok-begin-clause-at_most g c =
    TakesFrom-at_most _ _ _
    (TakesFrom-trans _ _ _ c.in-Ok-begin.ensures.begins.takes c.list_from-answer.ensures.takes)
    c.into_feed.ensures.known c.into_feed.ensures.counted

pub returns-clause-reports : goal.returns-clause-reports
returns-clause-reports g c = search (rules, counts_refused, made_refused, reports_published)

pub returns-clause-memory : goal.returns-clause-memory
returns-clause-memory g c =
    let published = rw c.from.ensures at c.publish-answer.ensures in
    λ is. c.in-Err-begin.ensures.refuses.memory (memory_refused _ published is)

pub returns-clause-at_most : goal.returns-clause-at_most
returns-clause-at_most g c = grind (arith, buffer_takes, refused_takes)

pub returns-clause-refused_header : goal.returns-clause-refused_header
returns-clause-refused_header g c = grind (arith, refused_takes, whatever_bytes)
