use Rattle.checker.proofs.Common.{map, sym, ◌∙◌, IsTrue, data_of as claim_data, IsRefuted}
use Rattle.certificate.specs.Refutation.{data_of as refutation_data}
use Rattle.checker.proofs.RefutationTests.{refuted_from, refuted_to}
use Rattle.checker.proofs.refutation.check_refutation.Goals as goal

pub returns : goal.returns
returns g c =
    let claim = claim_data c.args.claim.now in
    let xs = map g.X.ToExchange.shown c.args.exchanges.now in
    let refutation = refutation_data c.args.refutation.now in
    let refuted : IsTrue c.is_refuted.result → IsRefuted claim xs refutation =
    λ accepted. refuted_from claim xs refutation (sym c.is_refuted.ensures ∙ accepted) in
    record {
      exact = (refuted, λ holds. c.is_refuted.ensures ∙ refuted_to claim xs refutation holds);
      tested = c.is_refuted.ensures;
      course = λ accepted agree.
          c.accepted_refutations_have_a_course.ensures claim xs refutation c.args.claim.now.lawful c.requires.exchanges
          agree (refuted accepted);
      no_yes = λ accepted certificate yes'.
          c.yes_and_refutation_never_meet.ensures claim xs certificate refutation c.args.claim.now.lawful
          c.requires.exchanges yes' (refuted accepted);
    }
