use Rattle.std.proofs.Common.{◌≡◌, ℕ, ◌-◌, ◌∷◌, [], ◌∙◌, length, map, Some, ap, refl, subst, sym, arith, get_or, slice_get}
use Rattle.std.proofs.lemmas.Grind.{common_steps}
use Rattle.std.proofs.lemmas.List.{length-append, length-map, map_push}
use Rattle.std.proofs.lemmas.Option.{slice_get-get_or}
use Rattle.certificate.specs.Certificate.{piece_data}
use Rattle.cover_finder.specs.Common.{Case, Groups, case_data, claim_data, holds}
use Rattle.cover_finder.specs.Made.{AreCasesOf}
use Rattle.cover_finder.specs.Reach.{IsStopOf, ends_of}
use Rattle.cover_finder.specs.declared.reach.Stop.{Stop}
use Rattle.cover_finder.proofs.MadeReasons.{cases_more, fewer_left, stopped}
use Rattle.cover_finder.proofs.search.cases_of.Goals as goal

pub returns-in_default : goal.returns-in_default
returns-in_default c xs tables =
    let claim = claim_data c.args.claim.now in
    let covers = c.args.covers.now in
    let n = c.loop-out.out-index in
    let cases = c.loop-out.cases.items in
    let so_far = c.loop-out.invariant in
    let out : Groups = get_or covers n (record { bits = 0 }) in
    let stands = subst (λ (k : ℕ). slice_get covers k ≡ Some out) (sym (length-map cases case_data ∙ so_far.number))
    (slice_get-get_or covers n (record { bits = 0 }) c.loop-out-test.true) in
    let found = c.in_ok-pieces in
    stopped claim xs covers (map case_data cases) (so_far.are xs tables) out stands (map piece_data found.pieces.items)
    c.loop-out.left found.stop c.in_default.not-End (found.ensures.longest xs tables refl)
    (found.ensures.stop xs tables refl) so_far.count

pub loop-out-preserved : goal.loop-out-preserved
loop-out-preserved c =
    let claim = claim_data c.args.claim.now in
    let covers = c.args.covers.now in
    let n = c.loop-out.out-index in
    let cases = c.loop-out.cases.items in
    let so_far = c.loop-out.invariant in
    let out : Groups = get_or covers n (record { bits = 0 }) in
    let stands = subst (λ (k : ℕ). slice_get covers k ≡ Some out) (sym (length-map cases case_data ∙ so_far.number))
    (slice_get-get_or covers n (record { bits = 0 }) c.loop-out-test.true) in
    let found = c.in_ok-pieces in
    let case : Case = record { groups = c.numbers_of-groups.result; pieces = found.pieces } in
    let grown = c.in_ok-push.ensures.items in
    let pushed = ap (map case_data) grown ∙ map_push case_data cases case in
    let counted : length found.pieces.items ≡ c.len.result = grind (arith, common_steps) in
    let less : c.saturating_sub-left.result ≡ c.loop-out.left - c.len.result = grind (arith, common_steps) in
    record {
      number = rw grown (omega (arith, so_far.number, length-append cases (case ∷ [])));
      count = rw (pushed, less)
          (fewer_left (map case_data cases) (case_data case) c.loop-out.left c.len.result so_far.count
          (length-map found.pieces.items piece_data ∙ counted) (omega (arith, found.ensures.few, counted)));
      are = λ xs tables.
          let stops = subst (λ (s : Stop). IsStopOf claim xs (holds out) c.loop-out.left
          (ends_of (map piece_data found.pieces.items)) s) c.in-End.is (found.ensures.stop xs tables refl) in
          subst (AreCasesOf claim xs covers) (sym pushed)
          (cases_more claim xs covers (map case_data cases) (so_far.are xs tables) out stands (case_data case)
          (record {
            groups = c.numbers_of-groups.ensures;
            longest = found.ensures.longest xs tables refl;
            reach = stops;
            show = found.ensures.show xs tables refl;
          }));
    }

pub returns : goal.returns
returns c xs tables =
    let so_far = c.loop-out.invariant in
    let number = length-map c.loop-out.cases.items case_data in
    record {
      same_number = omega (arith, number, so_far.number, c.loop-out-test.false, c.loop-out.auto.out-index-end);
      are = so_far.are xs tables;
      few = omega (arith, so_far.count);
    }
