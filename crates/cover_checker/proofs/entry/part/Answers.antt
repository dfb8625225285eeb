use Rattle.std.proofs.Common.{◌<◌, ◌∙◌, ℕ, length, map, sym, subst, ap, Ok}
use Rattle.claim_file.specs.Claim.{data_of as claim_data}
use Rattle.feasibility.proofs.KeptMarkLists.{read_is}
use Rattle.feasibility.specs.Members.{has}
use Rattle.lemma_base.proofs.List.{All-slice_get}
use Rattle.pairing.specs.Exchange.{IsLawful}
use Rattle.cover_checker.proofs.PartFaults.{accepted, left_out, mixed, repeated}
use Rattle.cover_checker.proofs.entry.part.Goals as goal

pub returns-then-server-high : goal.returns-then-server-high
returns-then-server-high g c =
    mixed (claim_data c.args.claim.now) (has c.args.out) c.args.stretch c.args.earlier.now c.in-Some.low
    c.in-Some-exchange_named.high _ _ (sym c.in-Some.ensures) (sym c.in-Some-exchange_named.ensures)
    c.if-server-high.true

pub returns-then-names_server : goal.returns-then-names_server
returns-then-names_server g c =
    repeated (claim_data c.args.claim.now) (has c.args.out) c.args.stretch c.args.earlier.now c.in-Some.low
    c.in-Some-exchange_named.high _ _ (sym c.in-Some.ensures) (sym c.in-Some-exchange_named.ensures)
    c.if-server-high.false (sym c.names_server.ensures ∙ c.if-names_server.true)

pub returns-then-has : goal.returns-then-has
returns-then-has g c =
    let claim = claim_data c.args.claim.now in
    let groups = c.args.claim.now.groups.items in
    let low = c.in-Some.low in
    let lawful = All-slice_get (IsLawful (length claim.servers)) (map g.X.ToExchange.shown c.args.exchanges.now)
    c.args.entry.0 low c.requires.exchanges (sym c.in-Some.ensures) in
    let below : low.server < length groups =
    subst (λ (n : ℕ). low.server < n) (sym c.args.claim.now.lawful.group_for_each) lawful.listed in
    let is_low = read_is groups 0 low.server c.index.result.now below c.index.ensures in
    left_out claim (has c.args.out) c.args.stretch c.args.earlier.now low c.in-Some-exchange_named.high _ _
    (sym c.in-Some.ensures) (sym c.in-Some-exchange_named.ensures) c.if-server-high.false
    (sym c.names_server.ensures ∙ c.if-names_server.false)
    (ap (has c.args.out) is_low ∙ sym c.has.ensures ∙ c.if-has.true)

pub part_of-requires-clause-low : goal.part_of-requires-clause-low
part_of-requires-clause-low g c =
    All-slice_get (IsLawful (length c.args.claim.now.servers.items)) (map g.X.ToExchange.shown c.args.exchanges.now)
    c.args.entry.0 c.in-Some.low c.requires.exchanges (sym c.in-Some.ensures)

pub part_of-requires-clause-high : goal.part_of-requires-clause-high
part_of-requires-clause-high g c =
    All-slice_get (IsLawful (length c.args.claim.now.servers.items)) (map g.X.ToExchange.shown c.args.exchanges.now)
    c.args.entry.1 c.in-Some-exchange_named.high c.requires.exchanges (sym c.in-Some-exchange_named.ensures)

pub returns : goal.returns
returns g c =
    let claim = claim_data c.args.claim.now in
    let groups = c.args.claim.now.groups.items in
    let low = c.in-Some.low in
    let lawful = All-slice_get (IsLawful (length claim.servers)) (map g.X.ToExchange.shown c.args.exchanges.now)
    c.args.entry.0 low c.requires.exchanges (sym c.in-Some.ensures) in
    let below : low.server < length groups =
    subst (λ (n : ℕ). low.server < n) (sym c.args.claim.now.lawful.group_for_each) lawful.listed in
    let is_low = read_is groups 0 low.server c.index.result.now below c.index.ensures in
    ap Ok c.part_of.ensures
    ∙ sym (accepted claim (has c.args.out) c.args.stretch c.args.earlier.now low c.in-Some-exchange_named.high _ _
    (sym c.in-Some.ensures) (sym c.in-Some-exchange_named.ensures) c.if-server-high.false
    (sym c.names_server.ensures ∙ c.if-names_server.false)
    (ap (has c.args.out) is_low ∙ sym c.has.ensures ∙ c.if-has.false))
