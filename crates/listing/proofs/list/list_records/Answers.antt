use Rattle.listing.proofs.Common.{◌∙◌, ◌+◌, refl, sym, ap, arith, TakesFrom-none}
use Rattle.listing.proofs.Endings.{listed_short, listed_whole, listed_refused}
use Rattle.listing.proofs.UnderWay.{under_way_start, under_way_flushed, under_way_more}
use Rattle.listing.proofs.list.list_records.Goals as goal

pub records-init : goal.records-init
records-init g c = grind (arith, under_way_start)

pub catch_up-requires : goal.catch_up-requires
catch_up-requires g c = c.records.invariant.under_way.ready

pub returns-in-Err-clause-same_sink : goal.returns-in-Err-clause-same_sink
returns-in-Err-clause-same_sink g c = c.in-Err.ensures.same_sink ∙ c.records.invariant.same_sink

pub returns-in-Err-clause-listed : goal.returns-in-Err-clause-listed
returns-in-Err-clause-listed g c =
    listed_short c.records.invariant.under_way refl (TakesFrom-none _) c.in-Err.ensures.puts_nothing

pub next_record-requires : goal.next_record-requires
next_record-requires g c = omega (arith, c.records.invariant.under_way.same_faults, c.requires.source_room)

pub list_record-requires-clause-ready : goal.list_record-requires-clause-ready
list_record-requires-clause-ready g c = grind (arith, under_way_flushed)

pub overflow_add-packets : goal.overflow_add-packets
overflow_add-packets g c = grind (arith, under_way_flushed, under_way_more)

pub overflow_add-records : goal.overflow_add-records
overflow_add-records g c = grind (arith, under_way_flushed)

pub records-smaller : goal.records-smaller
records-smaller g c = grind (arith, under_way_flushed)

pub records-preserved : goal.records-preserved
records-preserved g c =
    let here = under_way_flushed c.records.invariant.under_way c.in_default.ensures.puts_nothing in
    let step = rw c.in-Ok-Some.field-0-is at c.in-Ok-Some.ensures in
    let puts = rw c.bytes.ensures at c.in-Ok.ensures.puts in
    let more = under_way_more _ here step puts c.in-Ok.ensures.at_most in
    record {
      same_sink = c.in-Ok.ensures.same_sink ∙ (c.in_default.ensures.same_sink ∙ c.records.invariant.same_sink);
      given = ap (λ n. n + 1) c.records.invariant.given ∙ sym step.numbers.1;
      under_way = more;
    }

pub returns-in-Err-list_record-clause-same_sink : goal.returns-in-Err-list_record-clause-same_sink
returns-in-Err-list_record-clause-same_sink g c = grind (arith)

pub returns-in-Err-list_record-clause-listed : goal.returns-in-Err-list_record-clause-listed
returns-in-Err-list_record-clause-listed g c =
    let here = under_way_flushed c.records.invariant.under_way c.in_default.ensures.puts_nothing in
    let step = rw c.in-Ok-Some.field-0-is at c.in-Ok-Some.ensures in
    listed_short here step.counts_fault step.takes c.in-Err-list_record.ensures.puts

pub close_list-requires : goal.close_list-requires
close_list-requires g c = grind (arith, under_way_flushed)

pub returns-in-Ok-close_list-clause-same_sink : goal.returns-in-Ok-close_list-clause-same_sink
returns-in-Ok-close_list-clause-same_sink g c = grind (arith)

pub returns-in-Ok-close_list-clause-listed : goal.returns-in-Ok-close_list-clause-listed
returns-in-Ok-close_list-clause-listed g c =
    let here = under_way_flushed c.records.invariant.under_way c.in_default.ensures.puts_nothing in
    let step = rw c.in-Ok-None.field-0-is at c.in-Ok-None.ensures in
    listed_whole here step
    (rw c.records.invariant.given at c.in-Ok-close_list.ensures.puts) c.in-Ok-close_list.ensures.at_most

pub returns-in-Err-close_list-clause-same_sink : goal.returns-in-Err-close_list-clause-same_sink
returns-in-Err-close_list-clause-same_sink g c = grind (arith)

pub returns-in-Err-close_list-clause-listed : goal.returns-in-Err-close_list-clause-listed
returns-in-Err-close_list-clause-listed g c =
    let here = under_way_flushed c.records.invariant.under_way c.in_default.ensures.puts_nothing in
    let step = rw c.in-Ok-None.field-0-is at c.in-Ok-None.ensures in
    listed_short here step.counts_fault step.takes c.in-Err-close_list.ensures.puts

pub returns-in-Err-next_record-clause-same_sink : goal.returns-in-Err-next_record-clause-same_sink
returns-in-Err-next_record-clause-same_sink g c = c.in_default.ensures.same_sink ∙ c.records.invariant.same_sink

pub returns-in-Err-next_record-clause-listed : goal.returns-in-Err-next_record-clause-listed
returns-in-Err-next_record-clause-listed g c =
    let here = under_way_flushed c.records.invariant.under_way c.in_default.ensures.puts_nothing in
    rw c.from.ensures (listed_refused _ here c.in-Err-next_record.ensures)
