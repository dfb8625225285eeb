use Rattle.finder.proofs.Common.{◌≡◌, ℕ, ◌+◌, ◌<◌, ℤ, pos, ◌≤ℤ◌, length, map, get_or, set, refl, sym, ap, ap₂, ◌∙◌, subst, to_z, of_z, arith, length-set, int_min, ◌↔◌, to_z-of_z, w128, data_of as claim_data, group_of, AreCompatible, AreLeeways, Lets, leeway_in, mark_at, no_limit, turned, reading_kept}
use Rattle.finder.proofs.CompactExchange.{lawful_of, stands_at}
use Rattle.std.proofs.lemmas.List.{get_or_default, get_or-replicate}
use Rattle.finder.proofs.GroupLeeway.{none_yet, one_more_leeway, replicated_kept, still_kept}
use Rattle.finder.proofs.leeway.leeways_at.Goals as goal

pub mark_of-mark-requires-clause-exchange : goal.mark_of-mark-requires-clause-exchange
mark_of-mark-requires-clause-exchange g c = record {
  servers = length c.args.claim.now.servers.items;
  lawful = lawful_of g.X.ToExchange.shown c.args.exchanges.now c.loop-held.held-index _ _ c.loop-held-test.true
      c.held-item.is c.to_exchange-exchange.ensures _ c.requires.exchanges;
}

pub group_of-requires : goal.group_of-requires
group_of-requires g c = record {
  listed = (lawful_of g.X.ToExchange.shown c.args.exchanges.now c.loop-held.held-index _ _ c.loop-held-test.true
      c.held-item.is c.to_exchange-exchange.ensures _ c.requires.exchanges).listed;
}

pub loop-held-init : goal.loop-held-init
loop-held-init g c = record {
  count = refl;
  kept = replicated_kept;
  so_far = none_yet (claim_data c.args.claim.now) (map g.X.ToExchange.shown c.args.exchanges.now) c.args.side
      (pos c.args.reading) _ (λ group below. get_or-replicate 32 group no_limit no_limit below);
}

pub loop-held-preserved : goal.loop-held-preserved
loop-held-preserved g c =
    let claim = claim_data c.args.claim.now in
    let lawful = c.args.claim.now.lawful in
    let xs = map g.X.ToExchange.shown c.args.exchanges.now in
    let x = c.to_exchange-exchange.result in
    let reading = pos c.args.reading in
    let leeways = c.loop-held.leeways in
    let most = c.most_under.result in
    let all = c.loop-held.invariant.count in
    let at = stands_at g.X.ToExchange.shown c.args.exchanges.now c.loop-held.held-index _ x c.loop-held-test.true
    c.held-item.is c.to_exchange-exchange.ensures in
    let group : c.from-group.result ≡ group_of claim x = c.from-group.ensures ∙ c.group_of.ensures.exact in
    let below : group_of claim x < 32 = subst (λ (k : ℕ). k < 32) c.group_of.ensures.exact c.group_of.ensures.range in
    let reading_is : to_z w128 (of_z w128 c.from.result) ≡ reading =
    to_z-of_z w128 c.from.result (record { sfits = c.from.type_inv }) ∙ c.from.ensures in
    let place : to_z w128 (of_z w128 c.turned-place.result) ≡ turned c.args.side reading =
    to_z-of_z w128 c.turned-place.result (record { sfits = c.turned-place.type_inv })
    ∙ c.turned-place.ensures.exact ∙ ap (turned c.args.side) reading_is in
    let leaves : (ticks : ℤ) → (ticks ≤ℤ most) ↔ Lets claim c.args.side reading ticks x =
    (λ ticks.
    let under = subst (λ (p : ℤ). (ticks ≤ℤ most)
    ↔ AreCompatible claim.drift_ppb (mark_at p ticks) c.mark_of-mark.result) place (c.most_under.ensures ticks) in
    let lets = c.mark_of-mark.ensures.exact claim reading ticks (sym (reading_kept claim lawful)) in
    (λ le. lets.0 (under.0 le), λ holds. under.1 (lets.1 holds))) in
    let old : to_z w128 (of_z w128 (get_or leeways c.from-group.result (pos 0)))
    ≡ leeway_in leeways (group_of claim x) =
    ap (λ (z : ℤ). to_z w128 (of_z w128 z)) (get_or_default leeways c.from-group.result (pos 0) no_limit
    (omega (arith, all, group, below)) ∙ ap (leeway_in leeways) group)
    ∙ c.loop-held.invariant.kept (group_of claim x) below in
    let now = to_z-of_z w128 c.min.result (record { sfits = c.min.type_inv }) in
    let least = now ∙ c.min.ensures.value
    ∙ ap₂ int_min old (to_z-of_z w128 most (record { sfits = c.most_under.type_inv })) in
    record {
      count = length-set leeways c.from-group.result _ ∙ all;
      kept = still_kept leeways c.from-group.result _ (omega (arith, all, group, below))
          (ap (λ (z : ℤ). to_z w128 (of_z w128 z)) now) c.loop-held.invariant.kept;
      so_far = subst (λ (k : ℕ). AreLeeways claim xs (c.loop-held.held-index + 1) c.args.side reading
          (set leeways k (to_z w128 (of_z w128 c.min.result)))) (sym group)
          (one_more_leeway claim xs c.args.side reading c.loop-held.held-index x at leeways c.loop-held.invariant.so_far
          all most _ leaves least below);
    }
