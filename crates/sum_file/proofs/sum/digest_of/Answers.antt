use Rattle.sum_file.proofs.Common.{option_map, ap, sym, ◌∙◌, rules, tests, bytes_eq, YieldsList-from_slice, find_from_yields_List, SumData, data_of}
use Rattle.sum_file.proofs.Lookups.{digest_found}
use Rattle.sum_file.proofs.sum.digest_of.Goals as goal

pub returns-in_err-sum : goal.returns-in_err-sum
returns-in_err-sum c =
    let found = find_from_yields_List (λ sum. bytes_eq sum.name.items c.args.name.now) _ _ c.find.result
    c.find.ensures.ran (YieldsList-from_slice c.args.sums.now c.iter.ensures.rest)
    (λ x b q k. search (rules, tests)) in
    record {
      exact = c.from_residual.ensures
          ∙ ap (λ f. option_map (λ (sum : SumData). sum.digest) (option_map data_of (option_map (λ x. x.now) f)))
          (sym c.in_err-sum.was)
          ∙ digest_found c.args.sums.now c.args.name.now c.find.result found;
    }

pub returns : goal.returns
returns c =
    let found = find_from_yields_List (λ sum. bytes_eq sum.name.items c.args.name.now) _ _ c.find.result
    c.find.ensures.ran (YieldsList-from_slice c.args.sums.now c.iter.ensures.rest)
    (λ x b q k. search (rules, tests)) in
    record {
      exact = ap (λ f. option_map (λ (sum : SumData). sum.digest) (option_map data_of (option_map (λ x. x.now) f)))
          (sym c.in_ok-sum.was)
          ∙ digest_found c.args.sums.now c.args.name.now c.find.result found;
    }
