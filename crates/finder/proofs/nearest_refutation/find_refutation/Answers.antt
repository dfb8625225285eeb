use Rattle.finder.proofs.Common.{rules, subst, true≢false, ◌≡◌, ◌∙◌, Some, length, sym, ap, arith, unsigned_abs, w64, option_map, ints, to_z-of_z, SFits, data_of as claim_data, IsNearestRefutation, refutation_at, w128_keeps, first_kept, reading_kept}
use Rattle.std.specs.Prelude.{map}
use Rattle.finder.proofs.RefutationFinding.{refutation_is, says_none, says_some}
use Rattle.finder.proofs.nearest_refutation.find_refutation.Goals as goal

pub nearest_error-requires-clause-low : goal.nearest_error-requires-clause-low
nearest_error-requires-clause-low g c server below = (c.rooms_of-rooms.ensures.rooms server below).low

pub nearest_error-requires-clause-high : goal.nearest_error-requires-clause-high
nearest_error-requires-clause-high g c server below = (c.rooms_of-rooms.ensures.rooms server below).high

pub returns-in_err-error-clause-none : goal.returns-in_err-error-clause-none
returns-in_err-error-clause-none g c none =
    let claim = claim_data c.args.claim.now in
    let xs = map g.X.ToExchange.shown c.args.exchanges.now in
    let are = rw (reading_kept claim c.args.claim.now.lawful) at c.rooms_of-rooms.ensures.rooms in
    says_none claim c.args.claim.now.lawful xs c.requires.exchanges
    (sym (c.in_err-error.ensures.exact xs are))

pub returns : goal.returns
returns g c =
    let claim = claim_data c.args.claim.now in
    let lawful = c.args.claim.now.lawful in
    let xs = map g.X.ToExchange.shown c.args.exchanges.now in
    let found = c.in_ok-error.error in
    let in_range = c.in_ok-error.ensures.in_range in
    let are = rw (reading_kept claim lawful) at c.rooms_of-rooms.ensures.rooms in
    let exact = c.in_ok-error.ensures.exact xs are in
    let wide = w128_keeps found (omega (arith, ints)) in
    let fits : SFits w64 found = search rules in
    let count : c.len.result ≡ length claim.servers = search rules in
    let liars = rw (wide, count) at c.refusing.ensures in
    let is = refutation_is claim lawful xs c.requires.exchanges c.rooms_of-rooms.result are found in_range _ _ liars
    (ap unsigned_abs (first_kept claim lawful)) in
    rw (wide, to_z-of_z w64 found fits) (record {
      exact = ap Some is ∙ ap (option_map (refutation_at claim xs)) exact;
      found = subst (IsNearestRefutation claim xs) (sym is)
          (says_some claim lawful xs c.requires.exchanges found (sym exact));
      none = λ none. absurd (true≢false none);
    })
