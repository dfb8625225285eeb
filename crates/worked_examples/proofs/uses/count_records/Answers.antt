use Rattle.std.proofs.Common.{◌∙◌, ◌+◌, [], Err, refl, sym, ap, arith, true≢false}
use Rattle.worked_examples.proofs.Count.{counted_none, counted_more, counted_whole, counted_fault}
use Rattle.worked_examples.proofs.uses.count_records.Goals as goal

pub records-init : goal.records-init
records-init g c = record {
  given = sym c.requires.fresh.none_given;
  unfailed = c.requires.fresh.unfailed;
  same_faults = refl;
  counted = counted_none _;
}

pub next_record-requires : goal.next_record-requires
next_record-requires g c = omega (arith, c.records.invariant.same_faults, c.requires.room)

pub overflow_add-count : goal.overflow_add-count
overflow_add-count g c =
    let step = rw c.in-Ok-Some.field-0-is at c.in-Ok-Some.ensures in
    omega (arith, step.lawful.number, step.numbers.0, c.records.invariant.given)

pub records-smaller : goal.records-smaller
records-smaller g c =
    let step = rw c.in-Ok-Some.field-0-is at c.in-Ok-Some.ensures in
    omega (arith, step.lawful.number, step.numbers.0, c.records.invariant.given)

pub records-preserved : goal.records-preserved
records-preserved g c =
    let step = rw c.in-Ok-Some.field-0-is at c.in-Ok-Some.ensures in
    record {
      given = ap (λ n. n + 1) c.records.invariant.given ∙ sym step.numbers.1;
      unfailed = step.stays_failed;
      same_faults = step.counts_fault ∙ c.records.invariant.same_faults;
      counted = counted_more _ _ _ _ _ _ c.records.invariant.counted step.next_is;
    }

pub returns-in-Ok-None : goal.returns-in-Ok-None
returns-in-Ok-None g c =
    let step = rw c.in-Ok-None.field-0-is at c.in-Ok-None.ensures in
    counted_whole _ _ _ _ [] c.records.invariant.counted step.next_is

pub returns-in-Err : goal.returns-in-Err
returns-in-Err g c =
    counted_fault _ _ _ _ _ _ c.records.invariant.counted
    (λ failed. true≢false (sym (c.in-Err.ensures.failed_iff.0 (ap Err failed)) ∙ c.records.invariant.unfailed))
    c.in-Err.ensures.next_is
