use Rattle.feasibility.proofs.Common.{map, sym, ◌∙◌, subst, List, data_of as claim_data, AreNumberedInOrder, conflict_data, AreListedUpto, Conflict}
use Rattle.feasibility.proofs.PartialTables.{within_end}
use Rattle.feasibility.proofs.ConflictList.{all_listed, nothing_listed, listed_in_range}
use Rattle.feasibility.proofs.shown_conflicts.first_contradictions.Goals as goal

pub loop-a-init : goal.loop-a-init
loop-a-init g c =
    let claim = claim_data c.args.claim.now in
    let xs = map g.X.ToExchange.shown c.args.exchanges.now in
    subst (λ (listed : List Conflict). AreListedUpto claim xs 0 0 (map conflict_data listed))
    (sym c.new-listed.ensures.items)
    (nothing_listed claim xs)

pub loop-a-preserved : goal.loop-a-preserved
loop-a-preserved g c =
    let claim = claim_data c.args.claim.now in
    let xs = map g.X.ToExchange.shown c.args.exchanges.now in
    c.in_ok-add_conflicts.ensures xs
    record {
      each = c.requires.exchanges;
      table_decides = c.requires.table;
      in_order = subst (AreNumberedInOrder claim xs) (sym c.deref.ensures.value) c.in_ok-marks.ensures.each;
    }
    c.loop-a.invariant

pub returns : goal.returns
returns g c =
    let claim = claim_data c.args.claim.now in
    let xs = map g.X.ToExchange.shown c.args.exchanges.now in
    all_listed claim xs c.loop-a.a (map conflict_data c.loop-a.listed.items) c.loop-a.invariant
    (λ a b among. within_end a _ _ _ (listed_in_range claim xs c.args.claim.now.lawful c.requires.exchanges a b among).0
    (c.groups-a-end.ensures.groups ∙ c.requires.groups) c.loop-a-test.false)
