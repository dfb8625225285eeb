use Rattle.reading_time.proofs.Common.{ap, first_line, inr, map, option_map, reading_of, rest_of, rules, sym, ◌++◌, ◌+◌, ◌≡◌, ◌∙◌, ◌∷◌, [], List, Some, ℕ, ReadingData, reading_data}
use Rattle.std.proofs.lemmas.List.{map-append}
use Rattle.std.proofs.lemmas.List.Elements.{All-push}
use Rattle.reading_time.specs.Reading.{IsLawfulReading}
use Rattle.reading_time.proofs.Lines.{after_readings, left_at, line_bad, beyond, line_read, nothing_left}
use Rattle.reading_time.specs.declared.reading.Reading.{Reading}
use Rattle.reading_time.proofs.times.read_times.Goals as goal

pub loop-done-preserved : goal.loop-done-preserved
loop-done-preserved c =
    let old = c.loop-done.readings.items in
    let reading = c.in-Some.reading in
    let done = c.loop-done.done in
    let rest = c.loop-done.rest.now in
    let pushed : c.push.new.self.items ≡ old ++ reading ∷ [] = search rules in
    let said : Some (reading_data reading) ≡ reading_of (first_line rest) =
    ap (option_map reading_data) (sym c.in-Some.is) ∙ c.read_reading.ensures.exact
    ∙ ap (λ (t : List ℕ). reading_of t) c.at_feed.ensures.line in
    record {
      rest = ap (λ (l : List Reading). after_readings (map reading_data l) (left_at (done + 1) c.at_feed.result.1.now))
          pushed
          ∙ ap (λ (t : List ℕ). after_readings (map reading_data (old ++ reading ∷ [])) (left_at (done + 1) t))
          c.at_feed.ensures.rest
          ∙ ap (λ (l : List ReadingData). after_readings l (left_at (done + 1) (rest_of rest)))
          (map-append reading_data old (reading ∷ []))
          ∙ sym (line_read done rest c.loop-done-test.true (sym c.is_empty.ensures ∙ c.if-is_empty.false)
          (map reading_data old) (reading_data reading) said)
          ∙ c.loop-done.invariant.rest;
      lawful = rw pushed (All-push (λ (r : Reading). IsLawfulReading (reading_data r)) old reading
          c.loop-done.invariant.lawful c.in-Some.ensures.lawful);
    }

pub returns-then-is_empty-clause-exact : goal.returns-then-is_empty-clause-exact
returns-then-is_empty-clause-exact c =
    sym c.loop-done.invariant.rest
    ∙ nothing_left c.loop-done.done c.loop-done.rest.now (map reading_data c.loop-done.readings.items)
    (sym c.is_empty.ensures ∙ c.if-is_empty.true)

pub returns-in-None-clause-exact : goal.returns-in-None-clause-exact
returns-in-None-clause-exact c =
    inr (sym c.loop-done.invariant.rest
    ∙ line_bad c.loop-done.done c.loop-done.rest.now c.loop-done-test.true
    (sym c.is_empty.ensures ∙ c.if-is_empty.false) (map reading_data c.loop-done.readings.items)
    (ap (option_map reading_data) (sym c.in-None.is) ∙ c.read_reading.ensures.exact
    ∙ ap (λ (t : List ℕ). reading_of t) c.at_feed.ensures.line))

pub returns-then-is_empty-2-clause-exact : goal.returns-then-is_empty-2-clause-exact
returns-then-is_empty-2-clause-exact c =
    sym c.loop-done.invariant.rest
    ∙ nothing_left c.loop-done.done c.loop-done.rest.now (map reading_data c.loop-done.readings.items)
    (sym c.is_empty-2.ensures ∙ c.if-is_empty-2.true)

pub returns-else-is_empty-2-clause-exact : goal.returns-else-is_empty-2-clause-exact
returns-else-is_empty-2-clause-exact c =
    inr (sym c.loop-done.invariant.rest
    ∙ beyond c.loop-done.done c.loop-done.rest.now (search rules) (map reading_data c.loop-done.readings.items)
    (sym c.is_empty-2.ensures ∙ c.if-is_empty-2.false))
