use Rattle.std.proofs.Common.{length, map, subst, sym}
use Rattle.std.proofs.lemmas.Option.{MatchOption-at_none}
use Rattle.std.specs.Prelude.{⊤}
use Rattle.feasibility.proofs.Covers.{course_gives_cover}
use Rattle.cover_finder.specs.Common.{AreLeastCovers, claim_data}
use Rattle.cover_finder.specs.Made.{IsNotMade}
use Rattle.cover_finder.specs.Table.{AreListed}
use Rattle.cover_finder.proofs.MadeReasons.{may_stay_open}
use Rattle.cover_finder.proofs.search.find_by_covers.Goals as goal

pub certificate_of-requires-clause-listed : goal.certificate_of-requires-clause-listed
certificate_of-requires-clause-listed g c =
    subst (AreListed (length c.args.claim.now.groups.items)) (sym c.as_slice-tables.ensures.value)
    c.in_ok-tables.ensures.listed

pub find_refutation-requires-clause-tables : goal.find_refutation-requires-clause-tables
find_refutation-requires-clause-tables g c =
    subst (AreListed (length c.args.claim.now.groups.items)) (sym c.as_slice-tables.ensures.value)
    c.in_ok-tables.ensures.listed

pub returns : goal.returns
returns g c course =
    let claim = claim_data c.args.claim.now in
    let xs = map g.X.ToExchange.shown c.args.exchanges.now in
    let lawful = c.args.claim.now.lawful in
    let covers = c.as_slice-covers.result.now in
    let least = subst (AreLeastCovers claim xs) (sym c.as_slice-covers.ensures.value) c.covers_of-covers.ensures in
    let not_made = MatchOption-at_none (IsNotMade claim xs covers) (λ _. ⊤) c.in_default.is
    c.in_ok-carried.ensures.none in
    may_stay_open claim xs covers least
    (λ k out begin end at from up to tick outside.
    c.what_a_case_leaves_unshown_is_nearly_off.ensures claim xs covers k out begin end lawful c.requires.exchanges least
    at from up to tick outside) not_made (course_gives_cover claim xs lawful c.requires.exchanges course)
