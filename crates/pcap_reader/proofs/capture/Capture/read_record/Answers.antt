use Rattle.pcap_reader.proofs.Common.{◌≡◌, ◌+◌, ◌-◌, ◌<◌, ◌≤◌, ◌∙◌, ap, sym, subst, refl, length, take, drop, Ok, Some, arith, eqb-true, eqb-false, err_from_is_err_and, prepend_known, option_map, held_bytes, last_bytes, still_has, supply_of, most_records, ShowsHead, ShowsFault, coming_from, TakesFrom, TakesFrom-trans, TornRecord}
use Rattle.pcap_reader.proofs.Intake.{refilled, refilled_twice, Refills-takes, length-held, last-none}
use Rattle.pcap_reader.proofs.NextRecord.{head_held, IsNext-same, says_nothing, next_end, next_fault, next_torn, next_whole}
use Rattle.pcap_reader.proofs.Ranges.{length-range}
use Rattle.pcap_reader.proofs.Step.{unfailed_iff, record_fault_may, record_fault_counts, record_fault_iff}
use Rattle.pcap_reader.proofs.ShortBytes.{in_time_head, in_time_record, in_time_fault}
use Rattle.pcap_reader.proofs.capture.Capture.read_record.Goals as goal

pub returns-in_default : goal.returns-in_default
returns-in_default g c =
    let s = c.args.self.now in
    let i = c.hold.new.self in
    let state = g.F.Feed.state in
    let h = c.in_default.ensures in
    let few : i.end - i.start < 16 = omega (arith, h.short, c.head_size.ensures.at_most) in
    let last =
    λ (many : most_records ≤ s.given). let none : i.end - i.start < 1 =
    omega (arith, h.short, c.head_size.ensures.last) in none in
    let kept = refilled state s.input i h.pulls in
    record {
      lawful = tt;
      numbers = refl;
      lends = last-none c.hold.new.self;
      next_is = says_nothing _;
      may_answer = tt;
      in_time = in_time_head s.format s.given s.input.place (still_has state s.input)
          (state i.feed).remaining (held_bytes i) _
          (sym (length-held i)) kept few last;
      counts_fault = h.counts_fault;
      failed_iff = unfailed_iff _ s.failed c.requires.unfailed (λ same. cc);
      stays_failed = refl;
      takes = Refills-takes _ _ _ _ _ h;
    }

pub returns-then-is_empty : goal.returns-then-is_empty
returns-then-is_empty g c =
    let s = c.args.self.now in
    let i = c.hold.new.self in
    let state = g.F.Feed.state in
    let h = c.in-Ok.ensures in
    let empty : length c.held-held.result.now ≡ 0 = eqb-true _ _ (sym c.is_empty.ensures ∙ c.if-is_empty.true) in
    let none : length (held_bytes i) ≡ 0 = sym (ap length c.held-held.ensures.value) ∙ empty in
    let short : i.end - i.start < c.head_size.result =
    omega (arith, c.head_size.ensures.some, c.held-held.ensures.len) in
    let kept = refilled state s.input i h.pulls in
    record {
      lawful = tt;
      numbers = refl;
      lends = last-none i;
      next_is = next_end s.format s.given s.input.place (still_has state s.input)
          (state i.feed).remaining i.place (held_bytes i)
          (last_bytes i 0)
          kept none (h.enough short);
      may_answer = tt;
      in_time = says_nothing _;
      counts_fault = h.counts_fault;
      failed_iff = unfailed_iff _ s.failed c.requires.unfailed (λ same. cc);
      stays_failed = refl;
      takes = Refills-takes _ _ _ _ _ h;
    }

pub returns-in_err-head : goal.returns-in_err-head
returns-in_err-head g c =
    let p = err_from_is_err_and c.from_residual.result c.from_residual.ensures.1 in
    let s = c.args.self.now in
    let i = c.hold.new.self in
    let state = g.F.Feed.state in
    let h = c.in-Ok.ensures in
    let e = c.in_err-head.field-0.0 in
    let fault = c.in_err-head.ensures in
    let full = eqb-false (length c.held-held.result.now) 0 (sym c.is_empty.ensures ∙ c.if-is_empty.false) in
    let size = ap length c.held-held.ensures.value in
    let end =
    λ (few : s.given < most_records) (short : length (held_bytes i) < 16).
    h.enough (omega (arith, c.head_size.ensures.header, length-held i))
    in
    let shows = subst (λ l. ShowsFault s.format s.given s.input.place l e) c.held-held.ensures.value fault.fault in
    let kept = refilled state s.input i h.pulls in
    rw (p.1, p.2) (record {
      lawful = tt;
      numbers = refl;
      lends = last-none i;
      next_is = next_fault s.format s.given s.input.place (still_has state s.input)
          (state i.feed).remaining _ (held_bytes i)
          (last_bytes i 0) e
          kept (omega arith) end shows;
      may_answer = record_fault_may e fault.record_fault;
      in_time = in_time_fault _ e _ fault.record_fault;
      counts_fault = record_fault_counts e _ _ fault.record_fault h.counts_fault;
      failed_iff = record_fault_iff e s.failed fault.record_fault c.requires.unfailed;
      stays_failed = refl;
      takes = Refills-takes _ _ _ _ _ h;
    })

pub returns-in_default-hold : goal.returns-in_default-hold
returns-in_default-hold g c =
    let s = c.args.self.now in
    let i = c.hold.new.self in
    let j = c.hold-2.new.self in
    let state = g.F.Feed.state in
    let h = c.in-Ok.ensures in
    let k = c.in_default-hold.ensures in
    let head = c.in_ok-head.head in
    let found = c.in_ok-head.ensures in
    let kept = refilled_twice state s.input i j h.pulls k.pulls in
    let front = subst (λ l. (16 ≤ length l) × ShowsHead s.format s.given s.input.place l head) (sym k.pulls.joined)
    (head_held head s.format s.given s.input.place _ (held_bytes i) _ c.held-held.ensures.value found.long
    found.shows)
    in
    let short : j.end - j.start < 16 + head.captured = omega (arith, k.short, c.record_size-size.ensures) in
    record {
      lawful = tt;
      numbers = refl;
      lends = last-none c.hold-2.new.self;
      next_is = says_nothing _;
      may_answer = tt;
      in_time = in_time_record s.format s.given s.input.place (still_has state s.input) (state j.feed).remaining
          (held_bytes j) head _
          kept found.few front.0 front.1 short;
      counts_fault = k.counts_fault ∙ ap (λ n. n + 1) h.counts_fault;
      failed_iff = unfailed_iff _ s.failed c.requires.unfailed (λ same. cc);
      stays_failed = refl;
      takes = TakesFrom-trans _ _ _ (Refills-takes _ _ _ _ _ h) (Refills-takes _ _ _ _ _ k);
    }

pub returns-in_err-check_whole : goal.returns-in_err-check_whole
returns-in_err-check_whole g c =
    let p = err_from_is_err_and c.from_residual-in_err-check_whole.result c.from_residual-in_err-check_whole.ensures.1
    in
    let s = c.args.self.now in
    let i = c.hold.new.self in
    let j = c.hold-2.new.self in
    let state = g.F.Feed.state in
    let h = c.in-Ok.ensures in
    let k = c.in-Ok-hold.ensures in
    let head = c.in_ok-head.head in
    let found = c.in_ok-head.ensures in
    let torn : c.in_err-check_whole.field-0.0 ≡ TornRecord s.input.place =
    c.in_err-check_whole.ensures.torn ∙ ap TornRecord found.place in
    let kept = refilled_twice state s.input i j h.pulls k.pulls in
    let front = subst (λ l. (16 ≤ length l) × ShowsHead s.format s.given s.input.place l head) (sym k.pulls.joined)
    (head_held head s.format s.given s.input.place _ (held_bytes i) _ c.held-held.ensures.value found.long
    found.shows)
    in
    let size = length-held j in
    let short : length (held_bytes j) < 16 + head.captured =
    omega (arith, c.held.ensures.len, c.in_err-check_whole.ensures.cut_off) in
    let after = option_map (coming_from s.format s.given j.place) (still_has state j) in
    rw (p.1, p.2, torn) (record {
      lawful = tt;
      numbers = refl;
      lends = last-none j;
      next_is = next_torn s.format s.given s.input.place (still_has state s.input)
          (state j.feed).remaining after (held_bytes j)
          (last_bytes j 0) head
          kept found.few front.0 front.1 short (k.enough (omega (arith, c.record_size-size.ensures)));
      may_answer = tt;
      in_time = says_nothing _;
      counts_fault = k.counts_fault ∙ h.counts_fault;
      failed_iff = unfailed_iff _ s.failed c.requires.unfailed (λ same. cc);
      stays_failed = refl;
      takes = TakesFrom-trans _ _ _ (Refills-takes _ _ _ _ _ h) (Refills-takes _ _ _ _ _ k);
    })

pub returns : goal.returns
returns g c =
    let s = c.args.self.now in
    let i = c.hold.new.self in
    let j = c.hold-2.new.self in
    let l = c.consume.new.self in
    let state = g.F.Feed.state in
    let h = c.in-Ok.ensures in
    let k = c.in-Ok-hold.ensures in
    let head = c.in_ok-head.head in
    let found = c.in_ok-head.ensures in
    let size = 16 + head.captured in
    let kept = refilled_twice state s.input i j h.pulls k.pulls in
    let front = subst (λ l. (16 ≤ length l) × ShowsHead s.format s.given s.input.place l head) (sym k.pulls.joined)
    (head_held head s.format s.given s.input.place _ (held_bytes i) _ c.held-held.ensures.value found.long
    found.shows)
    in
    let whole : size ≤ length (held_bytes j) = omega (
      arith,
      c.held.ensures.len,
      length-held j,
      c.in_ok-check_whole.ensures.whole,
    ) in
    let size_is : c.record_size-size.result ≡ size = c.record_size-size.ensures in
    let place : l.place ≡ s.input.place + size = omega (arith, c.consume.ensures.place, k.place, h.place) in
    let rest : held_bytes l ≡ drop size (held_bytes j) = c.consume.ensures.rest
    ∙ ap (λ n. drop n (held_bytes j)) size_is in
    let lent : last_bytes l head.captured ≡ take head.captured (drop 16 (held_bytes j)) =
    c.consume.ensures.last 16 head.captured (sym size_is) in
    let has : still_has state l ≡ prepend_known (drop size (held_bytes j)) (state j.feed).remaining =
    ap (λ xs. prepend_known xs (state l.feed).remaining) rest
    ∙ ap (λ f. prepend_known (drop size (held_bytes j)) (state f).remaining) c.consume.ensures.feed in
    let after : option_map (coming_from s.format (s.given + 1) l.place) (still_has state l)
    ≡ option_map (coming_from s.format (s.given + 1) (s.input.place + size)) (prepend_known (drop size (held_bytes j))
    (state j.feed).remaining) =
    ap (λ p. option_map (coming_from s.format (s.given + 1) p) (still_has state l)) place
    ∙ ap (option_map (coming_from s.format (s.given + 1) (s.input.place + size))) has in
    let next = next_whole s.format s.given s.input.place (still_has state s.input) (state j.feed).remaining
    (held_bytes j) head kept found.few front.1
    whole in
    record {
      lawful = found.lawful;
      numbers = (found.number, refl);
      lends = ap length lent ∙ length-range (held_bytes j) 16 head.captured whole;
      next_is = IsNext-same _ (Ok (Some head)) _ _ _ _ after lent next;
      may_answer = tt;
      in_time = says_nothing _;
      counts_fault = ap (λ f. (g.F.Feed.state f).faults) c.consume.ensures.feed ∙ k.counts_fault ∙ h.counts_fault;
      failed_iff = unfailed_iff _ s.failed c.requires.unfailed (λ same. cc);
      stays_failed = refl;
      takes = subst (TakesFrom (supply_of state s.input)) (sym c.consume.ensures.supply)
          (TakesFrom-trans _ _ _ (Refills-takes _ _ _ _ _ h) (Refills-takes _ _ _ _ _ k));
    }
