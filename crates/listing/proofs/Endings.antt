-- How a listing comes to its answer.
use Rattle.listing.proofs.Common.{◌≡◌, ◌∙◌, ◌++◌, ◌+◌, ◌≤◌, ℕ, List, [], ◌∷◌, Option, Some, None, Result, Ok, Err, refl, sym, ap, subst, arith, append-nil, true≢false, inl, inr, IfSome, concat, option_map, concat-append, SinkState, CaptureFault, Coming, broken_end, SourceState, IsStep, IsNext, TakesFrom, TakesFrom-trans, Outcome, RunFault, run_fault_of, OutputState, Puts, fresh_output, put_count, Report, GetsText, lines_of, closing_line, listing, HasGiven, HasPassed, IsUnderWay, HasListed, Lists, progress, most_line}
use Rattle.pcap_reader.specs.declared.fault.CaptureFault.TheVariants as captures
use Rattle.report.specs.declared.fault.Input.TheVariants as inputs
use Rattle.report.specs.declared.fault.Outcome.TheVariants as outcomes
use Rattle.report.specs.declared.fault.RunFault.TheVariants as faults
use Rattle.report.specs.Closing.{HasRun, Closes, StaysOrWrites}
use Rattle.listing.proofs.Devices.{closed_counts}
use Rattle.listing.proofs.Progress.{at_some, lines-listing, cut_in_lines, listing-whole, listing-broken}
use Rattle.listing.proofs.UnderWay.{ready_after}

-- lines that were put are the first of the report's
first_lines : {whole now : Coming} {done : List (List ℕ)} {records : ℕ} → HasGiven whole now done records →
    (listing whole).lines ≡ done ++ lines_of now.records
first_lines {whole = whole} given = lines-listing whole ∙ given.lines

concat-one : (done : List (List ℕ)) (text : List ℕ) → concat (done ++ text ∷ []) ≡ concat done ++ text
concat-one done text = concat-append done (text ∷ []) ∙ ap (λ (t : List ℕ). concat done ++ t) (append-nil text)

-- if the bytes are known, with what is known of the records that are left
module _ (start now : Option Coming) (done : List (List ℕ)) (records : ℕ) (Q : Coming → Type 0) where
  with_given : HasPassed start now done records →
      ((whole rest : Coming) → HasGiven whole rest done records → Q whole) → IfSome start Q
  with_given passed step = grind (arith)

  with_rest : (P : Coming → Type 0) → HasPassed start now done records → IfSome now P →
      ((whole rest : Coming) → P rest → HasGiven whole rest done records → Q whole) → IfSome start Q
  with_rest P passed known step = grind (arith, at_some)

module _ {start : SourceState} {sink : SinkState} where
  -- the sink failed in what was gathered
  pub listed_short : {s s' : SourceState} {o o' : OutputState} {packets : ℕ} {added : List (List ℕ)}
      {fault : RunFault} → IsUnderWay start sink (progress s o) packets →
      s'.fault_count ≡ s.fault_count → TakesFrom s.supply s'.supply →
      Puts o o' added (Err fault) → HasListed start sink (progress s' o') (Err fault)
  listed_short {s = s} {s' = s'} {o' = o'} u same takes puts =
      let stop = puts.texts sink.contents u.done u.put in
      let text = with_given start.remaining s.remaining u.done s.given
      (λ c. HasRun (listing c) sink.contents o' (Err (faults.Write stop.sent))) u.passed
      (λ whole rest given.
      cut_in_lines (listing whole) u.done (lines_of rest.records) (first_lines given) stop.cut) in
      subst (λ (f : RunFault). HasListed start sink (progress s' o') (Err f)) (sym stop.fault_is) (record {
        text = text;
        can_close = puts.is_open;
        stops = omega (arith, puts.faults, u.sink_faults);
        device = record { claim = refl; second = refl; capture = same ∙ u.same_faults; sums = refl };
        takes = TakesFrom-trans start.supply s.supply s'.supply u.takes takes;
        in_memory = λ wrong. cc;
      })

  -- the records end whole, and the closing line was put
  pub listed_whole : {s s' : SourceState} {o o' : OutputState} {packets : ℕ} →
      IsUnderWay start sink (progress s o) packets → IsStep s (Ok None) s' →
      Puts o o' (closing_line s.given packets ∷ []) (Ok tt) → put_count o' ≤ (put_count o + most_line) →
      HasListed start sink (progress s' o') (Ok outcomes.Yes)
  listed_whole {s = s} {s' = s'} {o' = o'} {packets = packets} u step puts short =
      let closing = closing_line s.given packets in
      let put = puts.texts sink.contents u.done u.put in
      let whole_text = λ (whole rest : Coming) (next : IsNext rest (Ok None) s'.remaining s'.lent)
      (given : HasGiven whole rest u.done s.given).
      let all = subst (λ (c : Coming). HasGiven whole c u.done s.given) next.0 given in
      let is : listing whole ≡ record { lines = u.done; closing = closing; answer = Ok outcomes.Yes } =
      rw u.packets_are (listing-whole all) in
      subst (λ (r : Report). HasRun r sink.contents o' (Ok outcomes.Yes)) (sym is)
      (refl, (u.done ++ closing ∷ [], concat-one u.done closing, put)) in
      record {
        text = with_rest start.remaining s.remaining u.done s.given
            (λ c. HasRun (listing c) sink.contents o' (Ok outcomes.Yes))
            (λ c. IsNext c (Ok None) s'.remaining s'.lent) u.passed step.next_is whole_text;
        can_close = ready_after u.ready puts (omega (arith, u.short, u.few));
        stops = omega (arith, puts.faults, u.sink_faults);
        device = record { claim = refl; second = refl; capture = step.counts_fault ∙ u.same_faults; sums = refl };
        takes = TakesFrom-trans start.supply s.supply s'.supply u.takes step.takes;
        in_memory = λ wrong. cc;
      }

  -- a fault of the bytes stands after the records
  listed_broken : {s s' : SourceState} {o : OutputState} {packets : ℕ} (fault : CaptureFault) →
      IsUnderWay start sink (progress s o) packets → IfSome s.remaining (λ c. c ≡ broken_end fault) →
      s'.fault_count ≡ s.fault_count → TakesFrom s.supply s'.supply →
      HasListed start sink (progress s' o) (Err (faults.Capture fault))
  listed_broken {s = s} {s' = s'} {o = o} fault u next same takes =
      let answer : Result Outcome RunFault = Err (faults.Capture fault) in
      let broken_text = λ (whole rest : Coming) (end : rest ≡ broken_end fault)
      (given : HasGiven whole rest u.done s.given).
      let all = subst (λ (c : Coming). HasGiven whole c u.done s.given) end given in
      subst (λ (r : Report). HasRun r sink.contents o answer) (sym (listing-broken all))
      (refl, (u.done, sym (append-nil (concat u.done)), u.put)) in
      record {
        text = with_rest start.remaining s.remaining u.done s.given (λ c. HasRun (listing c) sink.contents o answer)
            (λ c. c ≡ broken_end fault) u.passed next broken_text;
        can_close = u.ready;
        stops = omega (arith, u.sink_faults);
        device = record { claim = refl; second = refl; capture = same ∙ u.same_faults; sums = refl };
        takes = TakesFrom-trans start.supply s.supply s'.supply u.takes takes;
        in_memory = λ wrong. cc;
      }

  -- the source's device failed
  listed_device : {s s' : SourceState} {o : OutputState} {packets : ℕ} → IsUnderWay start sink (progress s o) packets →
      IsStep s (Err captures.Read) s' → HasListed start sink (progress s' o) (Err (faults.Device inputs.Capture))
  listed_device {s = s} {s' = s'} {o = o} u step = record {
    text = with_given start.remaining s.remaining u.done s.given
        (λ c. HasRun (listing c) sink.contents o (Err (faults.Device inputs.Capture))) u.passed
        (λ whole rest given. (u.done, lines_of rest.records, first_lines given, u.put));
    can_close = u.ready;
    stops = omega (arith, u.sink_faults);
    device = record {
      claim = refl;
      second = refl;
      capture = step.counts_fault ∙ ap (λ n. n + 1) u.same_faults;
      sums = refl;
    };
    takes = TakesFrom-trans start.supply s.supply s'.supply u.takes step.takes;
    in_memory = λ wrong. cc;
  }

  -- the source answered a fault
  pub listed_refused : {s s' : SourceState} {o : OutputState} {packets : ℕ} (fault : CaptureFault) →
      IsUnderWay start sink (progress s o) packets → IsStep s (Err fault) s' →
      HasListed start sink (progress s' o) (Err (run_fault_of fault))
  listed_refused captures.Read u step = listed_device u step
  listed_refused captures.Failed u step = absurd (true≢false (sym (step.failed_iff.0 refl) ∙ u.unfailed))
  listed_refused (captures.TornRecord p) u step =
      listed_broken (captures.TornRecord p) u step.next_is step.counts_fault step.takes
  listed_refused (captures.TooLong p) u step =
      listed_broken (captures.TooLong p) u step.next_is step.counts_fault step.takes
  listed_refused (captures.BadFraction p) u step =
      listed_broken (captures.BadFraction p) u step.next_is step.counts_fault step.takes
  listed_refused captures.TooMany u step = listed_broken captures.TooMany u step.next_is step.counts_fault step.takes
  listed_refused captures.TornHeader u step = absurd step.may_answer
  listed_refused captures.Magic u step = absurd step.may_answer
  listed_refused captures.Version u step = absurd step.may_answer
  listed_refused captures.Link u step = absurd step.may_answer
  listed_refused captures.Memory u step = absurd step.may_answer

-- no answer becomes that memory was refused
module _ (sent : ℕ) where
  written : (answer : Result Outcome RunFault) → answer ≡ Err (faults.Write sent) → answer ≡ Err faults.Memory → ⊥
  written answer is wrong = let same : Err (faults.Write sent) ≡ Err faults.Memory = sym is ∙ wrong in cc

stays_in_memory : (ran answer : Result Outcome RunFault) → (ran ≡ Err faults.Memory → ⊥) →
    StaysOrWrites ran answer → answer ≡ Err faults.Memory → ⊥
stays_in_memory (Err faults.Memory) answer in_memory stays wrong = in_memory refl
stays_in_memory (Err (faults.Device input)) answer in_memory stays wrong = in_memory (sym stays ∙ wrong)
stays_in_memory (Err (faults.Write sent)) answer in_memory stays wrong = in_memory (sym stays ∙ wrong)
stays_in_memory ran answer in_memory stays wrong = elim stays [
  | inl same ↦ in_memory (sym same ∙ wrong)
  | inr stop ↦ written stop.0 answer stop.1 wrong
]

-- A listing is closed.
module _ {o : OutputState} {after : SinkState} {ran answer : Result Outcome RunFault}
    (closes : Closes o after ran answer) where
  lists_text : (known : Option Coming) (before : Option (List ℕ)) →
      IfSome known (λ coming. HasRun (listing coming) before o ran) →
      IfSome (option_map listing known) (λ r. GetsText r before after.contents answer)
  lists_text None before listed = tt
  lists_text (Some coming) before listed = closes.text (listing coming) before listed

  not_memory : (ran ≡ Err faults.Memory → ⊥) → answer ≡ Err faults.Memory → ⊥
  not_memory in_memory refused = stays_in_memory ran answer in_memory closes.stays refused

module _ {start end : SourceState} {sink after : SinkState} {o : OutputState}
    {ran answer : Result Outcome RunFault} where
  lists_closed : HasListed start sink (progress end o) ran → Closes o after ran answer →
      Lists start end sink after answer
  lists_closed listed closes = grind (arith, closed_counts, lists_text, not_memory)

  -- a listing whose output began over this sink
  pub lists_over : {first : OutputState} → first ≡ fresh_output sink → HasListed start first.sink (progress end o) ran →
      Closes o after ran answer → Lists start end sink after answer
  lists_over fresh listed closes = grind (arith, lists_closed, progress)
