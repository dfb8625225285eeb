use Rattle.checker.proofs.Common.{rules, ◌<◌, List, length, map, sym, ap, ◌∙◌, subst, data_of as claim_data, IsLawfulSample, Sample, samples_of, IsVerdictOn, verdict_of}
use Rattle.std.specs.List.{All}
use Rattle.certificate.specs.Certificate.{data_of as certificate_data}
use Rattle.checker.proofs.Exchange.{are_samples, listed_samples, lawful_samples, same_samples}
use Rattle.checker.proofs.NoOverflow.{reading_kept}
use Rattle.checker.proofs.verdict.check_exchanges.Goals as goal

pub invariant_of-source : goal.invariant_of-source
invariant_of-source g c = let claim = c.args.claim.now.lawful in search rules

pub first_fault-requires-clause-samples : goal.first_fault-requires-clause-samples
first_fault-requires-clause-samples g c =
    let claim = claim_data c.args.claim.now in
    let xs = map g.X.ToExchange.shown c.args.exchanges.now in
    subst (All IsLawfulSample) (same_samples xs claim _ (reading_kept claim c.args.claim.now.lawful))
    (lawful_samples xs claim _ c.args.claim.now.lawful c.requires.exchanges)

pub first_fault-requires-clause-listed : goal.first_fault-requires-clause-listed
first_fault-requires-clause-listed g c =
    let claim = claim_data c.args.claim.now in
    let xs = map g.X.ToExchange.shown c.args.exchanges.now in
    let servers = length c.args.claim.now.servers.items in
    let reading = reading_kept claim c.args.claim.now.lawful in
    subst (All (λ (sample : Sample). sample.server < servers)) (same_samples xs claim _ reading)
    (listed_samples xs claim servers c.requires.exchanges)

pub returns : goal.returns
returns g c =
    let claim = claim_data c.args.claim.now in
    let xs = map g.X.ToExchange.shown c.args.exchanges.now in
    let certificate = certificate_data c.args.certificate.now in
    let exact =
    c.first_fault.ensures
    ∙ ap (λ (samples : List Sample). verdict_of samples claim certificate)
    (sym (same_samples xs claim _ (reading_kept claim c.args.claim.now.lawful))) in
    subst (IsVerdictOn claim (samples_of xs claim) certificate) (sym exact)
    (c.verdicts_are_traceable.ensures claim (samples_of xs claim) certificate c.args.claim.now.lawful
    (are_samples xs claim c.args.claim.now.lawful c.requires.exchanges))
