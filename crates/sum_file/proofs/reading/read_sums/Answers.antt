use Rattle.sum_file.proofs.Common.{◌≡◌, ◌+◌, Err, ◌==◌, ◌++◌, ◌∷◌, [], Some, None, option_map, map, ap, sym, ◌∙◌, rules, tests, inr, YieldsList-from_slice, all_from_yields_List, map-append, Form, line_of, carriage_return, line_feed, agreed, without_last, agree, data_of}
use Rattle.std.proofs.lemmas.Iterator.Splits.{YieldsList-from_slice_split}
use Rattle.std.proofs.lemmas.Iterator.Consumers.{YieldsList-so_far, YieldsList-turn, YieldsList-end}
use Rattle.sum_file.proofs.Turns.{line_added, line_without_sum, line_that_disagrees, lines_yielded, lines_are_good, line_is_bad}
use Rattle.sum_file.proofs.reading.read_sums.Goals as goal
use Rattle.sum_file.proofs.reading.read_sums.Goals.{in_default-via-in-Some-2+else-all, in_default-via-in_default}

pub loop-ended-preserved : goal.loop-ended-preserved
loop-ended-preserved c =
    let passes = all_from_yields_List (λ o. agree (data_of o) (data_of c.in-Some-2.sum)) _ _ c.all.result
    c.all.ensures.ran (YieldsList-from_slice c.loop-ended.sums.items (c.iter.ensures.rest ∙ c.deref.ensures.value))
    (λ x b q k. search (rules, tests)) in
    let said : Some (data_of c.in-Some-2.sum) ≡ line_of (without_last carriage_return c.in-Some.ended.now) =
    ap (option_map data_of) (sym c.in-Some-2.is) ∙ c.in_ok-sum.ensures.exact
    ∙ ap line_of c.without_last-in-loop-ended.ensures.exact in
    let pushed : c.push.new.self.items ≡ c.loop-ended.sums.items ++ c.in-Some-2.sum ∷ [] = search rules in
    ap agreed (map-append (λ e. without_last carriage_return e.now) c.loop-ended.yielded (c.in-Some.ended ∷ []))
    ∙ line_added (lines_yielded c.loop-ended.yielded) (without_last carriage_return c.in-Some.ended.now)
    c.loop-ended.sums.items c.in-Some-2.sum c.loop-ended.invariant said (sym passes ∙ c.if-all.true)
    ∙ ap (λ s. Some (map data_of s)) (sym pushed)

pub returns-in_default : goal.returns-in_default
returns-in_default c =
    let chain = YieldsList-from_slice_split _ (λ b. b == line_feed) c.without_last.result.now (cc) (cc) (cc)
    (λ x b q k. search (rules, tests)) in
    let read = c.in_ok-sum.ensures.exact ∙ ap line_of c.without_last-in-loop-ended.ensures.exact in
    let done = lines_yielded c.loop-ended.yielded in
    let line = without_last carriage_return c.in-Some.ended.now in
    let bad : agreed (done ++ line ∷ []) ≡ None =
    elim c.in_default.branch [
      | in_default-via-in-Some-2+else-all w ↦
          line_that_disagrees done line c.loop-ended.sums.items w.in-Some-2.sum c.loop-ended.invariant
          (ap (option_map data_of) (sym w.in-Some-2.is) ∙ read)
          (sym (all_from_yields_List (λ o. agree (data_of o) (data_of w.in-Some-2.sum)) _ _ w.all.result
          w.all.ensures.ran
          (YieldsList-from_slice c.loop-ended.sums.items (w.iter.ensures.rest ∙ w.deref.ensures.value))
          (λ x b q k. search (rules, tests))) ∙ w.if-all.false)
      | in_default-via-in_default w ↦
          line_without_sum done line c.loop-ended.sums.items c.loop-ended.invariant
          (ap (option_map data_of) (sym w.in_default.is) ∙ read)
    ] in
    record {
      exact = inr (
          line_is_bad c.args.text.now c.without_last.result.now c.loop-ended.yielded c.in-Some.ended.now
          c.loop-ended.sums.items
          (record { some = sym c.is_empty.ensures ∙ c.if-is_empty.false; without_feed = c.without_last.ensures.exact })
          (record {
            so_far = YieldsList-so_far chain c.loop-ended.yielded _ c.loop-ended.yielded_by;
            next = YieldsList-turn chain c.loop-ended.yielded _ c.loop-ended.yielded_by _ _ c.in-Some.ended c.in-Some.is
                c.next.ensures.steps;
          })
          c.loop-ended.invariant bad
          ∙ ap (λ n. Err (Form (n + 1))) (search rules)
          );
    }

pub returns : goal.returns
returns c =
    let chain = YieldsList-from_slice_split _ (λ b. b == line_feed) c.without_last.result.now (cc) (cc) (cc)
    (λ x b q k. search (rules, tests)) in
    let end =
    YieldsList-end chain c.loop-ended.yielded _ c.loop-ended.yielded_by _ _ c.in-None.is c.next.ensures.steps in
    record {
      exact = lines_are_good c.args.text.now c.without_last.result.now c.loop-ended.yielded _
          (record { some = sym c.is_empty.ensures ∙ c.if-is_empty.false; without_feed = c.without_last.ensures.exact })
          end.0 c.loop-ended.invariant;
    }
