-- What is collected is what the definition says.
use Rattle.std.proofs.lemmas.Int.{ints}
use Rattle.pairing.proofs.Common.{◌≡◌, ◌∙◌, ℕ, ◌+◌, List, [], ◌∷◌, Bool, true, false, Option, Some, None, Result, Ok, Err, refl, sym, ap, length, arith, ◌<◌, ◌≤◌, map, origin_of, root_distance_of, pos, unsigned_abs, unwrap_or, filter, count_by, is_none, if◌then◌else◌, cons_option, filter_map, result_ok, nat_tests, Record, ClaimData, Counts, Exchange, TooManyExchanges, CompactExchange, IndexedRequest, Key, Place, Refusal, Version, Leap, Stratum, Precision, ZeroStamp, NoRequest, Ambiguous, count_for, IsJoined, most_exchanges, IsGatheredFrom, is_accepted, is_early, is_for, compact_of, Indexes, found_in, place_of, exchange_by, outcome_by, outcomes_by, request_at, Request, Reply, collection_of, requests_of, replies_of, requests_for, outcome_of, outcomes_of, paired, unless_refused, distance_of, exchange_of, is_refused, refused_for, is_warning, exchanges_of, counts_of, refusal_of, sum_by-cons}
use Rattle.std.proofs.lemmas.Bool.{le-ltb}
use Rattle.pairing.proofs.LookUps.{indexed_as_found}
use Rattle.pairing.proofs.Windows.{last_tick}

-- the first counts apart
pub count_by-cons : {X : Type 0} (p : X → Bool) (x : X) (xs : List X) →
    count_by p (x ∷ xs) ≡ (if p x then 1 else 0) + count_by p xs
count_by-cons p x xs = sum_by-cons _ x xs

kept : (has_none : Bool) (n : ℕ) → let o = if has_none then None else Some (pos n) in
    pos (unsigned_abs (unwrap_or o (pos 0))) ≡ unwrap_or o (pos 0)
kept true n = refl
kept false n = refl

-- a root distance isn't negative
distance-kept : (header : List ℕ) → pos (unsigned_abs (distance_of header)) ≡ distance_of header
unfolding root_distance_of
distance-kept header = grind (arith, ints, nat_tests, kept)

-- the place of the requests that a reply may be one to says what becomes of it
by_place : (reply : Reply) (requests : List Request) →
    exchange_by (compact_of reply) (request_at (place_of requests)) ≡ paired reply requests
by_place reply (q ∷ []) = λ i. Ok (record (exchange_of q reply) {
  t1_high = last_tick q.head i;
  t4_high = last_tick reply.head i;
  distance = distance-kept reply.header i;
})
by_place reply _ = refl

module _ (requests : List Request) (look_up : Key → Option Place) (indexed : Indexes look_up requests) where
  -- what becomes of a reply that is held
  abbrev found : CompactExchange → Result Exchange Refusal
  found = outcome_by look_up

  found-compact_of : (reply : Reply) → found (compact_of reply) ≡ paired reply (requests_for reply requests)
  found-compact_of reply =
      ap (λ (p : Option Place). exchange_by (compact_of reply) (request_at p)) (indexed (record {
        server = reply.server;
        port = reply.port;
        stamp = origin_of reply.header;
      }))
      ∙ by_place reply (requests_for reply requests)

  exchanges-head : (reply : Reply) (accepted : List Reply) (o : Option Refusal) (xs : List Exchange) →
      xs ≡ filter_map result_ok (map found (map compact_of accepted)) →
      cons_option (result_ok (unless_refused o (paired reply (requests_for reply requests)))) xs
      ≡ filter_map result_ok (map found (map compact_of (if is_none o then reply ∷ accepted else accepted)))
  exchanges-head reply accepted None xs is = grind (arith, ints, nat_tests, found-compact_of, found)
  exchanges-head reply accepted (Some refusal) xs is = is

  -- the exchanges of the replies are those of the replies that are held
  pub exchanges-held : (replies : List Reply) →
      filter_map result_ok (map (outcome_of requests) replies)
      ≡ filter_map result_ok (map found (map compact_of (filter is_accepted replies)))
  exchanges-held [] = refl
  exchanges-held (reply ∷ replies) =
      exchanges-head reply (filter is_accepted replies) (refusal_of reply.header) (filter_map result_ok (map
      (outcome_of requests) replies)) (exchanges-held replies)

  refused-head : (reason : Refusal) (reply : Reply) (accepted : List Reply) (o : Option Refusal) (others early : ℕ) →
      others ≡ early + count_by (is_refused reason) (map found (map compact_of accepted)) →
      (if is_refused reason (unless_refused o (paired reply (requests_for reply requests))) then 1 else 0) + others
      ≡ ((if is_for reason o then 1 else 0) + early)
      + count_by (is_refused reason) (map found (map compact_of (if is_none o then reply ∷ accepted else accepted)))
  refused-head reason reply accepted None others early is =
      let one : ◌≡◌ {A = ℕ} (if is_refused reason (found (compact_of reply)) then 1 else 0) (if is_refused reason
      (paired reply (requests_for reply requests)) then 1 else 0) =
      ap (λ (p : Result Exchange Refusal). if is_refused reason p then 1 else 0) (found-compact_of reply) in
      omega (
        arith,
        count_by-cons (is_refused reason) (found (compact_of reply)) (map found
            (map compact_of accepted)),
      )
  refused-head reason reply accepted (Some refusal) others early is = omega (arith, is)

  -- the refused replies are those that their own headers refuse, and those among the replies that are held
  pub refused-held : (reason : Refusal) (replies : List Reply) →
      refused_for reason (map (outcome_of requests) replies)
      ≡ count_by (is_early reason) replies + refused_for reason (map found (map compact_of
      (filter is_accepted replies)))
  refused-held reason [] = refl
  refused-held reason (reply ∷ replies) =
      let head = refused-head reason reply (filter is_accepted replies) (refusal_of reply.header) (refused_for reason
      (map (outcome_of requests) replies)) (count_by (is_early reason) replies)
      (refused-held reason replies) in
      omega (
        arith,
        count_by-cons (is_refused reason) (outcome_of requests reply) (map
            (outcome_of requests) replies),
        count_by-cons (is_early reason) reply replies,
      )

pub held-exchanges : (claim : ClaimData) (records : List Record) {kept : List IndexedRequest}
    {held : List CompactExchange}
    {counts : Counts} →
    IsGatheredFrom claim records kept held counts →
    filter_map result_ok (outcomes_by (found_in kept) held) ≡ exchanges_of claim records
unfolding exchanges_of
held-exchanges claim records {kept} {held} {counts} g =
    ap (λ (hs : List CompactExchange). filter_map result_ok (outcomes_by (found_in kept) hs)) g.holds
    ∙ sym (exchanges-held (requests_of claim records) (found_in kept)
    (indexed_as_found (requests_of claim records) kept g.keeps) (replies_of claim records))

module _ (claim : ClaimData) (records : List Record) {kept : List IndexedRequest} {held : List CompactExchange}
    {counts joined : Counts} {exchanges : List Exchange}
    (g : IsGatheredFrom claim records kept held counts) (j : IsJoined counts
    (outcomes_by (found_in kept) held) exchanges joined) where
  pub collected-exchanges : exchanges ≡ exchanges_of claim records
  collected-exchanges = j.exchanges_are ∙ held-exchanges claim records g

  collected-refused : (reason : Refusal) → count_for reason joined ≡ refused_for reason (outcomes_of claim records)
  collected-refused reason =
      let waits : refused_for reason (outcomes_by (found_in kept) held)
      ≡ refused_for reason (outcomes_by (found_in kept) (map compact_of (filter is_accepted
      (replies_of claim records)))) =
      ap (λ (hs : List CompactExchange). refused_for reason (outcomes_by (found_in kept) hs)) g.holds in
      omega (
        arith,
        refused-held (requests_of claim records) (found_in kept)
            (indexed_as_found (requests_of claim records) kept g.keeps) reason (replies_of claim records),
      )

  collected-warnings : joined.warnings ≡ count_by is_warning (exchanges_of claim records)
  collected-warnings = grind (arith, ints, nat_tests, collected-exchanges)

  pub collected-counts : joined ≡ counts_of claim records
  unfolding counts_of
  collected-counts = λ i. record {
    records = (j.same_records ∙ g.all_records) i;
    requests = (j.same_requests ∙ g.all_requests) i;
    replies = (j.same_replies ∙ g.all_replies) i;
    version = collected-refused Version i;
    leap = collected-refused Leap i;
    stratum = collected-refused Stratum i;
    precision = collected-refused Precision i;
    zero_stamp = collected-refused ZeroStamp i;
    no_request = collected-refused NoRequest i;
    ambiguous = collected-refused Ambiguous i;
    warnings = collected-warnings i;
  }

-- what is joined of all that was gathered
module _ (claim : ClaimData) (records : List Record) {kept : List IndexedRequest} {held : List CompactExchange}
    {counts : Counts} (g : IsGatheredFrom claim records kept held counts) where
  pub collection-few : {joined : Counts} {exchanges : List Exchange} →
      IsJoined counts (outcomes_by (found_in kept) held) exchanges joined → length exchanges ≤ most_exchanges →
      collection_of claim records ≡ Ok (record { exchanges = exchanges; counts = joined })
  unfolding collection_of
  collection-few {joined} {exchanges} j few =
      rw (← collected-exchanges claim records g j, ← collected-counts claim records g j, le-ltb most_exchanges _ few)
      refl

  pub collection-many : most_exchanges < length (filter_map result_ok (outcomes_by (found_in kept) held)) →
      collection_of claim records ≡ Err TooManyExchanges
  unfolding collection_of
  collection-many more = grind (arith, ints, nat_tests, held-exchanges claim records g)
