use Rattle.feasibility.proofs.Common.{◌≡◌, ℕ, ◌+◌, ◌<◌, ◌≤◌, ◌∷◌, List, drop, length, map, sym, subst, arith, length-map, drop_of_length-le, data_of as claim_data, has_exchange, holds, Exchange, numbers_below}
use Rattle.feasibility.proofs.CoverMembers.{count_same}
use Rattle.feasibility.proofs.HeardGroups.{AreHeardTo, one_more_heard, all_heard}
use Rattle.feasibility.proofs.KeptMarkLists.{first_left, lawful_shown, read_is, within_groups}
use Rattle.feasibility.proofs.served_groups.groups_with_exchanges.Goals as goal

pub index-requires : goal.index-requires
index-requires g c =
    let lawful = lawful_shown g.X.ToExchange.shown _ c.loop-exchange-test.true c.exchange-item.is
    c.to_exchange-exchange.ensures c.requires.exchanges in
    within_groups _ _ _ _ lawful.listed c.args.claim.now.lawful.group_for_each c.args.claim.now.groups.ok.0

few_groups : (g read servers : ℕ) → read ≡ g → g < servers → servers ≤ 32 → read < 32
few_groups g read servers is below few = omega arith

pub with-found-requires : goal.with-found-requires
with-found-requires g c =
    let groups = c.args.claim.now.groups.items in
    let lawful = lawful_shown g.X.ToExchange.shown _ c.loop-exchange-test.true c.exchange-item.is
    c.to_exchange-exchange.ensures c.requires.exchanges in
    let server = c.to_exchange-exchange.result.server in
    let below : server < length groups =
    subst (λ (n : ℕ). server < n) (sym c.args.claim.now.lawful.group_for_each) lawful.listed in
    few_groups _ c.index.result.now (length c.args.claim.now.servers.items) c.index.ensures
    (c.args.claim.now.lawful.groups_in_range server c.index.result.now below) c.args.claim.now.lawful.few_servers

pub loop-exchange-preserved : goal.loop-exchange-preserved
loop-exchange-preserved g c =
    let claim = claim_data c.args.claim.now in
    let groups = c.args.claim.now.groups.items in
    let xs = map g.X.ToExchange.shown c.args.exchanges.now in
    let k = c.loop-exchange.exchange-index in
    let x = c.to_exchange-exchange.result in
    let split : drop k xs ≡ x ∷ drop (k + 1) xs =
    first_left g.X.ToExchange.shown _ c.loop-exchange-test.true c.exchange-item.is c.to_exchange-exchange.ensures in
    let lawful = lawful_shown g.X.ToExchange.shown _ c.loop-exchange-test.true c.exchange-item.is
    c.to_exchange-exchange.ensures c.requires.exchanges in
    let below : x.server < length groups =
    subst (λ (n : ℕ). x.server < n) (sym c.args.claim.now.lawful.group_for_each) lawful.listed in
    one_more_heard claim xs x (drop k xs) (drop (k + 1) xs) (holds c.loop-exchange.found) (holds c.with-found.result)
    c.index.result.now split (sym (read_is groups 0 x.server c.index.result.now below c.index.ensures))
    c.with-found.ensures c.loop-exchange.invariant

pub returns-clause-count : goal.returns-clause-count
returns-clause-count g c =
    let claim = claim_data c.args.claim.now in
    let xs = map g.X.ToExchange.shown c.args.exchanges.now in
    let found = holds c.loop-exchange.found in
    let past : length (map g.X.ToExchange.shown c.args.exchanges.now) ≤ c.loop-exchange.exchange-index =
    rw length-map c.loop-exchange-test.false in
    count_same found (has_exchange claim xs) (numbers_below (length c.args.claim.now.groups.items))
    (all_heard claim xs found (subst (λ (rest : List Exchange). AreHeardTo claim xs rest found)
    (drop_of_length-le xs past) c.loop-exchange.invariant))
