use Rattle.std.proofs.Common.{◌≤◌, arith, length, map}
use Rattle.std.proofs.lemmas.List.{length-map}
use Rattle.std.proofs.lemmas.List.Elements.{All-push}
use Rattle.cover_finder.specs.Common.{IsWithinRange, claim_data}
use Rattle.cover_finder.specs.Table.{mark_of}
use Rattle.cover_finder.specs.declared.peak.Numbered.{Numbered}
use Rattle.cover_finder.proofs.Tables.{marks_all, marks_more, marks_passed}
use Rattle.cover_finder.proofs.table.gathered.Goals as goal
use Rattle.cover_finder.proofs.table.gathered.Goals.{in-Some+in_ok-push-in-Some, in-None}

pub loop-number-preserved : goal.loop-number-preserved
loop-number-preserved g c =
    let of = mark_of c.args.is_high (claim_data c.args.claim.now).reading in
    let xs = map g.X.ToExchange.shown c.args.exchanges.now in
    let n = c.loop-number.number in
    let marks = c.loop-number.marks.items in
    let so_far = c.loop-number.invariant in
    elim c.match-mark_for.branch [
      | in-Some+in_ok-push-in-Some w ↦ record {
        are = rw (w.marks-is, w.in_ok-push-in-Some.ensures.items)
            (marks_more of xs c.args.server n marks so_far.are w.in-Some.one w.in-Some.ensures.mark.0
            w.in-Some.ensures.mark.1);
        range = rw (w.marks-is, w.in_ok-push-in-Some.ensures.items)
            (All-push (λ (one : Numbered). IsWithinRange one.mark) marks w.in-Some.one so_far.range
            w.in-Some.ensures.range);
      }
      | in-None w ↦ record {
        are = rw w.marks-is (marks_passed of xs c.args.server n marks so_far.are w.in-None.ensures.mark);
        range = rw w.marks-is so_far.range;
      }
    ]

pub returns-clause-are : goal.returns-clause-are
returns-clause-are g c =
    let xs = map g.X.ToExchange.shown c.args.exchanges.now in
    let past : length xs ≤ c.loop-number.number =
    omega (arith, length-map c.args.exchanges.now g.X.ToExchange.shown, c.loop-number-test.false, c.requires.few) in
    marks_all (mark_of c.args.is_high (claim_data c.args.claim.now).reading) xs c.args.server c.loop-number.number
    c.loop-number.marks.items c.loop-number.invariant.are past
