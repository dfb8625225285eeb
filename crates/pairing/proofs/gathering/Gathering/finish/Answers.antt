use Rattle.pairing.proofs.Common.{◌≡◌, ◌∙◌, ◌++◌, ◌<◌, List, Option, ap, arith, inr, length, length-take, map, subst, sym, take, ℕ, filter_map, result_ok, length-map, err_from_is_err_and, get, CompactExchange, Key, IndexedRequest, Place, IsJoined, most_exchanges, IsGatheredFrom, exchange_shown, Finds, found_in, same_key, outcomes_by}
use Rattle.std.proofs.Math.Seq.{take-append_seam}
use Rattle.pairing.proofs.Exactness.{collection-few, collection-many}
use Rattle.pairing.proofs.gathering.Gathering.finish.Goals as goal

-- what stands at the front of what was written
take-written : {X : Type 0} (k n : ℕ) (ys zs : List X) → length ys ≡ n → take k (take n (ys ++ zs)) ≡ take k ys
take-written k n ys zs is = rw (← is) (ap (take k) (take-append_seam ys zs))

-- the look-ups of the index are those among the requests
same_look_up : (look_up : Key → Option Place) (kept held_kept : List IndexedRequest) → kept ≡ held_kept →
    Finds look_up kept → look_up ≡ found_in held_kept
same_look_up look_up kept held_kept same finds =
    λ i. λ k. (finds k ∙ ap (λ (items : List IndexedRequest). found_in items k) same) i

pub returns-in_err-kept : goal.returns-in_err-kept
returns-in_err-kept c claim records gathered =
    let requests = c.args.self.requests.items in
    let same = subst (λ (hs : List CompactExchange). IsGatheredFrom claim records requests hs c.args.self.counts)
    (sym c.deref_mut.ensures.value) gathered in
    let look_up = same_look_up (get same_key c.in_ok-index.index.places) _ requests c.deref.ensures.value c.in_ok-index.ensures in
    let fault = c.in_err-kept.ensures.fault in
    let many = subst (λ (l : Key → Option Place). most_exchanges < length (filter_map result_ok
    (outcomes_by l c.deref_mut.result.now))) look_up fault.1 in
    let p = err_from_is_err_and c.from_residual-in_err-kept.result c.from_residual-in_err-kept.ensures.1 in
    rw (p.1, p.2, fault.0) (inr (collection-many claim records same many))

pub returns : goal.returns
returns c claim records gathered =
    let requests = c.args.self.requests.items in
    let same = subst (λ (hs : List CompactExchange). IsGatheredFrom claim records requests hs c.args.self.counts)
    (sym c.deref_mut.ensures.value) gathered in
    let look_up = same_look_up (get same_key c.in_ok-index.index.places) _ requests c.deref.ensures.value c.in_ok-index.ensures in
    let kept = c.in_ok-kept.kept in
    let joined = c.in_ok-kept.ensures in
    let all = subst (λ (l : Key → Option Place). IsJoined c.args.self.counts (outcomes_by l c.deref_mut.result.now)
    (map exchange_shown (take kept c.join.new.exchanges)) c.join.new.counts) look_up joined.joined in
    let items : c.truncate.new.self.items ≡ take kept c.join.new.exchanges =
    c.truncate.ensures.items ∙ take-written kept c.args.self.exchanges.len c.join.new.exchanges _
    (c.join.auto.exchanges ∙ c.deref_mut.ensures.len) in
    rw items (collection-few claim records same all (omega (
      arith,
      length-map (take kept c.join.new.exchanges) exchange_shown,
      length-take kept c.join.new.exchanges,
      joined.few,
    )))
