use Rattle.pcap_reader.proofs.Common.{◌≡◌, ◌+◌, ◌∙◌, ℕ, ap, Some, refl, sym, arith, length, length-take, length-drop, eqb-true, eqb-false, RecordHead, coming_from, TakesFrom-none}
use Rattle.pcap_reader.proofs.Remaining.{coming_from-nil, coming_from_fault, coming_from_read, next_is_fault}
use Rattle.pcap_reader.proofs.Step.{unfailed_iff, record_fault_may, record_fault_counts, record_fault_iff}
use Rattle.pcap_reader.proofs.ShortBytes.{in_time_fault}
use Rattle.pcap_reader.proofs.whole.WholeRecordSource.next_record.Goals as goal

pub returns-then-is_empty : goal.returns-then-is_empty
returns-then-is_empty c =
    let s = c.args.self.now in
    let none : length s.rest.now ≡ 0 = eqb-true _ _ (sym c.is_empty.ensures ∙ c.if-is_empty.true) in
    let e = coming_from-nil s.format s.given s.place s.rest.now none in
    record {
      lawful = tt;
      numbers = refl;
      lends = refl;
      next_is = (e, ap Some e);
      may_answer = tt;
      counts_fault = refl;
      in_time = tt;
      takes = TakesFrom-none _;
      stays_failed = c.if-self.false;
      failed_iff = unfailed_iff _ s.failed c.if-self.false (λ same. cc);
    }

pub returns-in-Ok : goal.returns-in-Ok
returns-in-Ok c =
    let s = c.args.self.now in
    let head = c.in-Ok.head in
    let found = c.in-Ok.ensures in
    let size : length c.in-Ok.lent.now ≡ head.captured = ap length found.lent
    ∙ simp (length-take, length-drop) (omega (arith, found.whole)) in
    let after = λ (place : ℕ). coming_from s.format (s.given + 1) place c.in-Ok.rest.now in
    record {
      lawful = found.lawful;
      numbers = (ap (λ (h : RecordHead). h.number) found.head, refl);
      lends = size;
      next_is = (
        after (s.place + (16 + head.captured)),
        coming_from_read s.format s.given s.place s.rest.now head c.in-Ok.lent.now c.in-Ok.rest.now
            (omega (arith, found.whole)) found.stands found.head found.lent found.rest,
        ap (λ n. Some (after (s.place + (16 + n)))) c.from.ensures,
      );
      may_answer = tt;
      in_time = tt;
      counts_fault = refl;
      failed_iff = unfailed_iff _ s.failed c.if-self.false (λ same. cc);
      stays_failed = c.if-self.false;
      takes = TakesFrom-none _;
    }

pub returns-in-Err : goal.returns-in-Err
returns-in-Err c =
    let s = c.args.self.now in
    let e = c.in-Err.fault in
    let ne : length s.rest.now ≡ 0 → ⊥ = eqb-false _ _ (sym c.is_empty.ensures ∙ c.if-is_empty.false) in
    record {
      lawful = tt;
      numbers = refl;
      lends = refl;
      next_is = next_is_fault _ e _ _
          (coming_from_fault s.format s.given s.place s.rest.now e (omega arith) c.in-Err.ensures.fault);
      may_answer = record_fault_may e c.in-Err.ensures.record_fault;
      in_time = in_time_fault (Some _) e 0 c.in-Err.ensures.record_fault;
      counts_fault = record_fault_counts e _ _ c.in-Err.ensures.record_fault refl;
      failed_iff = record_fault_iff e s.failed c.in-Err.ensures.record_fault c.if-self.false;
      stays_failed = refl;
      takes = TakesFrom-none _;
    }
