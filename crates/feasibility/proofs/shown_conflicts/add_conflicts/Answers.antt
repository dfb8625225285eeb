use Rattle.feasibility.proofs.Common.{arith, ◌<◌, length, map, refl, sym, ◌∙◌, subst, data_of as claim_data, IsFirstIfAny, conflict_data}
use Rattle.feasibility.specs.ConflictsView.{data_of}
use Rattle.feasibility.proofs.PartialTables.{within_end}
use Rattle.feasibility.proofs.ConflictList.{has_pair, not_listed, pushed, row_listed, lists, lists_not, listed_in_range}
use Rattle.feasibility.proofs.shown_conflicts.add_conflicts.Goals as goal
use Rattle.feasibility.proofs.shown_conflicts.add_conflicts.Goals.{then-is_listed+in_ok-found+in-Some+in_ok-push, then-is_listed+in_ok-found+in_default, else-is_listed}

pub loop-b-init : goal.loop-b-init
loop-b-init c = λ xs grounds listed. listed

pub loop-b-preserved : goal.loop-b-preserved
loop-b-preserved c =
    let claim = claim_data c.args.claim.now in
    let table = data_of c.args.conflicts.now in
    let a = c.args.a in
    let b = c.loop-b.b in
    let a_in : a < length claim.groups = omega arith in
    let b_in : b < length claim.groups = omega arith in
    λ xs grounds listed.
    let before = c.loop-b.invariant xs grounds listed in
    elim c.if-is_listed.branch [
      | then-is_listed+in_ok-found+in-Some+in_ok-push w ↦
          rw w.listed-is (pushed claim xs a b c.loop-b.listed.items w.push.new.self.items
          record { a = a; b = b; pair = w.in-Some.pair } w.in_ok-push.ensures.items before
          (lists claim xs c.args.claim.now.lawful grounds.each table grounds.table_decides a b a_in b_in
          (sym c.is_listed.ensures ∙ w.if-is_listed.true))
          record {
            one = refl;
            other = refl;
            first = (subst (IsFirstIfAny claim xs a b) w.in-Some.is
                (w.in_ok-found.ensures claim xs refl grounds.in_order));
          })
      | then-is_listed+in_ok-found+in_default w ↦
          absurd (subst (IsFirstIfAny claim xs a b) w.in_default.is
          (w.in_ok-found.ensures claim xs refl grounds.in_order)
          (has_pair claim xs a b
          (lists claim xs c.args.claim.now.lawful grounds.each table grounds.table_decides a b a_in b_in
          (sym c.is_listed.ensures ∙ w.if-is_listed.true))))
      | else-is_listed w ↦
          rw w.listed-is (not_listed claim xs a b (map conflict_data c.loop-b.listed.items) before
          (lists_not claim xs c.args.claim.now.lawful grounds.each table grounds.table_decides a b a_in b_in
          (sym c.is_listed.ensures ∙ w.if-is_listed.false)))
    ]

pub returns : goal.returns
returns c =
    let claim = claim_data c.args.claim.now in
    λ xs grounds listed.
    row_listed claim xs c.args.a c.loop-b.b (map conflict_data c.loop-b.listed.items)
    (c.loop-b.invariant xs grounds listed)
    (λ b among. within_end b _ _ _ (listed_in_range claim xs c.args.claim.now.lawful grounds.each c.args.a b among).1
    (c.groups-b-end.ensures.groups ∙ c.requires.groups) c.loop-b-test.false)
