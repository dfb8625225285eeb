use Rattle.finder.proofs.Common.{◌≡◌, pos, List, [], ◌∷◌, ◌++◌, Some, nat_tests, sym, ap, ◌∙◌, arith, ints, All-nil, All-push, data_of, holds, IsGap, gap_between}
use Rattle.std.proofs.lemmas.List.Elements.{All-pop}
use Rattle.finder.specs.declared.neediest.Gap.{Gap}
use Rattle.finder.proofs.GapSearch.{boundless_at, first_left, half_gaps, left_behind, left_split, none_left, one_seen, seen_at}
use Rattle.finder.proofs.LongestPiece.{first_is, last_is}
use Rattle.finder.proofs.neediest.neediest_tick.Goals as goal
use Rattle.finder.proofs.neediest.neediest_tick.Goals.{then-may_need_more+in-Some-tick_need-2+in_ok-push-2+in_ok-push-3, else-may_need_more}

pub loop-init : goal.loop-init
loop-init c =
    let claim = data_of c.args.claim.now in
    let lawful = c.args.claim.now.lawful in
    let first = c.in-Some.first in
    let last = c.in-Some-tick_need.last in
    let begins : pos first.begin ≡ claim.first = ap (λ n. pos n) c.in-Some.ensures.begin ∙ first_is claim lawful in
    let ends : pos last.begin ≡ claim.last = ap (λ n. pos n) c.in-Some-tick_need.ensures.begin ∙ last_is claim lawful in
    let forward = lawful.span_forward in
    let pushed : c.push.new.self.items ≡ gap_between first last ∷ [] =
    c.in_ok-push.ensures.items ∙ ap (λ (gaps : List Gap). gaps ++ gap_between first last ∷ []) c.new-left.ensures.items in
    let gap : IsGap claim (gap_between first last) =
    record {
      from_first = omega (arith, ints, begins);
      in_order = omega (arith, ints, begins, ends, forward);
      to_last = omega (arith, ints, ends);
    } in
    record {
      gaps = rw pushed (All-push (IsGap claim) [] (gap_between first last) (All-nil (IsGap claim)) gap);
      known = λ samples tabled.
          (let seen = seen_at samples claim (holds c.args.cover) _ first c.in-Some.ensures.begin
          (rw (first_is claim lawful) (omega (arith, ints))) (rw (first_is claim lawful) forward)
          (c.in-Some.ensures.need samples tabled) in
          let seen' = seen_at samples claim (holds c.args.cover) _ last c.in-Some-tick_need.ensures.begin
          (rw (last_is claim lawful) forward) (rw (last_is claim lawful) (omega (arith, ints)))
          (c.in-Some-tick_need.ensures.need samples tabled) in (
            one_seen samples claim (holds c.args.cover) first last c.needier-best.result c.needier-best.ensures.one seen
                seen',
            rw pushed
                (first_left samples claim (holds c.args.cover) first last c.needier-best.result.ticks seen seen' begins ends
                c.needier-best.ensures.this c.needier-best.ensures.other),
          ));
    }

pub returns-in_default-pop : goal.returns-in_default-pop
returns-in_default-pop c samples tabled =
    let known = c.loop.invariant.known samples tabled in
    record {
      in_span = known.0.in_span;
      need = known.0.need;
      most = λ whole. none_left samples (data_of c.args.claim.now) (holds c.args.cover) c.loop.best.ticks
          c.loop.left.items (sym c.loop.left.ok.0 ∙ c.in_default-pop.ensures.cases.0) known.1;
    }

pub may_need_more-requires-clause-gap : goal.may_need_more-requires-clause-gap
may_need_more-requires-clause-gap c =
    (All-pop (IsGap (data_of c.args.claim.now)) c.loop.left.items c.pop.new.self.items (Some c.in-Some-pop.gap)
    c.in-Some-pop.ensures.items c.loop.invariant.gaps).1

pub middle-middle-requires-clause-in_order : goal.middle-middle-requires-clause-in_order
middle-middle-requires-clause-in_order c =
    (All-pop (IsGap (data_of c.args.claim.now)) c.loop.left.items c.pop.new.self.items (Some c.in-Some-pop.gap)
    c.in-Some-pop.ensures.items c.loop.invariant.gaps).1.in_order

pub tick_need-requires-then-may_need_more-clause-in_span : goal.tick_need-requires-then-may_need_more-clause-in_span
tick_need-requires-then-may_need_more-clause-in_span c =
    let gap = (All-pop (IsGap (data_of c.args.claim.now)) c.loop.left.items c.pop.new.self.items
    (Some c.in-Some-pop.gap) c.in-Some-pop.ensures.items c.loop.invariant.gaps).1 in
    omega (arith, ints)

pub returns-in_default-tick_need-2 : goal.returns-in_default-tick_need-2
returns-in_default-tick_need-2 c samples tabled =
    let gap = (All-pop (IsGap (data_of c.args.claim.now)) c.loop.left.items c.pop.new.self.items
    (Some c.in-Some-pop.gap) c.in-Some-pop.ensures.items c.loop.invariant.gaps).1 in
    boundless_at samples (data_of c.args.claim.now) (holds c.args.cover) c.middle-middle.result
    (omega (arith, ints)) (omega (arith, ints))
    (c.in_default-tick_need-2.ensures.need samples tabled)

pub loop-preserved : goal.loop-preserved
loop-preserved c =
    let claim = data_of c.args.claim.now in
    let cover = holds c.args.cover in
    let gap = c.in-Some-pop.gap in
    let rest = c.pop.new.self.items in
    let popped = c.in-Some-pop.ensures.items in
    let gaps = All-pop (IsGap claim) c.loop.left.items rest (Some gap) popped c.loop.invariant.gaps in
    elim c.if-may_need_more.branch [
      | then-may_need_more+in-Some-tick_need-2+in_ok-push-2+in_ok-push-3 w ↦
          (let tick = w.in-Some-tick_need-2.tick in
          let at = w.in-Some-tick_need-2.ensures.begin in
          let later = w.halves.result.0 in
          let next = w.halves.result.1 in
          let halves = half_gaps claim gap tick later next w.halves.ensures gaps.1 (omega (arith, at))
          (omega (arith, at)) in
          let pushed : w.push-then-may_need_more-2.new.self.items ≡ (rest ++ later ∷ []) ++ next ∷ [] =
          w.in_ok-push-3.ensures.items ∙ ap (λ (gaps : List Gap). gaps ++ next ∷ []) w.in_ok-push-2.ensures.items in
          rw (w.left-is, w.best-is) (record {
            gaps = rw pushed (All-push (IsGap claim) (rest ++ later ∷ []) next
                (All-push (IsGap claim) rest later gaps.0 halves.0) halves.1);
            known = λ samples tabled.
                (let known = c.loop.invariant.known samples tabled in
                let seen = seen_at samples claim cover w.middle-middle.result tick at (omega (arith, ints))
                (omega (arith, ints)) (w.in-Some-tick_need-2.ensures.need samples tabled) in
                let needier = w.needier-best-then-may_need_more in (
                  one_seen samples claim cover c.loop.best tick needier.result needier.ensures.one known.0 seen,
                  rw pushed
                      (left_split samples claim cover c.loop.best.ticks c.loop.left.items rest gap popped known.1 tick
                      needier.result.ticks later next w.halves.ensures seen needier.ensures.this needier.ensures.other),
                ));
          }))
      | else-may_need_more w ↦ rw (w.left-is, w.best-is) (record {
        gaps = gaps.0;
        known = λ samples tabled.
            (let known = c.loop.invariant.known samples tabled in (
              known.0,
              left_behind samples claim cover c.loop.best.ticks c.loop.left.items rest gap popped known.1
                  (c.may_need_more.ensures w.if-may_need_more.false samples tabled),
            ));
      })
    ]

pub returns : goal.returns
returns c samples tabled =
    let known = c.loop.invariant.known samples tabled in
    record {
      in_span = known.0.in_span;
      need = known.0.need;
      most = λ whole. none_left samples (data_of c.args.claim.now) (holds c.args.cover) c.loop.best.ticks
          c.loop.left.items (sym c.loop.left.ok.0 ∙ grind (arith, nat_tests, c.is_empty.ensures)) known.1;
    }
