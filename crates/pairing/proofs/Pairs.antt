-- Exchanges are those of the pairs.
use Rattle.std.proofs.Common.{◌==◌, ◌&&◌}
use Rattle.pairing.proofs.Common.{◌≡◌, ◌∙◌, ℕ, zero, suc, ◌<◌, List, [], ◌∷◌, true, Option, Some, None, Ok, refl, sym, ap, subst, length, get_or, arith, map, All, AllPairs, Contains, IfSome, ◌≢◌, cons_option, filter_map, result_ok, nat_tests, All-contains_itself, filter_passes, RecordHead, Record, origin_of, ClaimData, Exchange, Refusal, Request, Reply, reply_of, requests_of, replies_of, answers, requests_for, exchange_of, outcome_of, paired, unless_refused, exchanges_of, refusal_of, rules}
use Rattle.std.proofs.lemmas.List.Kept.{AllPairs-cons}
use Rattle.pairing.specs.Pair.{IsExchangeOf, IsPair, NameEachOther}
use Rattle.pairing.proofs.Limits.{All-filter_map}

filter_map-map : {X Y Z : Type 0} (g : Y → Option Z) (f : X → Y) (xs : List X) →
    filter_map g (map f xs) ≡ filter_map (λ x. g (f x)) xs
filter_map-map g f [] = refl
filter_map-map g f (x ∷ xs) = ap (cons_option (g (f x))) (filter_map-map g f xs)

three_same : (a b c d e f : ℕ) → (a == b && (c == d && e == f)) ≡ true → (a ≡ b) × (c ≡ d) × (e ≡ f)
three_same a b c d e f h = grind (arith, nat_tests)

-- a request that a reply may be one to has its server, port and timestamp
names : (reply : Reply) (requests : List Request) (q : Request) → requests_for reply requests ≡ q ∷ [] →
    NameEachOther q reply
names reply requests q only =
    let passes = subst (λ (qs : List Request). All (λ (r : Request). answers reply r
    ≡ true) qs) only (filter_passes (answers reply) requests) in
    let parts = three_same reply.server q.server reply.port q.port (origin_of reply.header) q.stamp (passes 0 q
    (omega arith)) in
    record { server = parts.0; port = parts.1; stamp = parts.2 }

module _ (claim : ClaimData) (records : List Record) where
  pair_at : (reply : Reply) → Contains (replies_of claim records) reply → (o : Option Refusal) →
      refusal_of reply.header ≡ o → (qs : List Request) →
      requests_for reply (requests_of claim records) ≡ qs →
      IfSome (result_ok (unless_refused o (paired reply qs))) (IsExchangeOf claim records)
  pair_at reply given None is (q ∷ []) only = record {
    request = q;
    reply = reply;
    pair = record { given = given; accepted = is; only = only };
    named = names reply (requests_of claim records) q only;
    made = refl;
  }
  pair_at reply given _ is _ only = tt

  pub exchanges_sound : All (IsExchangeOf claim records) (exchanges_of claim records)
  unfolding exchanges_of
  exchanges_sound =
      let replies = replies_of claim records in
      let requests = requests_of claim records in
      rw (filter_map-map result_ok (outcome_of requests) replies)
      (All-filter_map (λ reply. result_ok (outcome_of requests reply)) (IsExchangeOf claim records) replies
      (λ k d below. pair_at (get_or replies k d) (All-contains_itself replies k d below) (refusal_of
      (get_or replies k d).header) refl
      (requests_for (get_or replies k d) requests) refl))

-- what is given of an element is there
contains-kept : {Y : Type 0} (o : Option Y) (ys : List Y) (y : Y) → Contains ys y → Contains (cons_option o ys) y
contains-kept None ys y there = there
contains-kept (Some z) ys y (k, below, is) = (suc k, omega (arith, below), is)

contains-first : {Y : Type 0} (o : Option Y) (ys : List Y) (y : Y) → o ≡ Some y → Contains (cons_option o ys) y
contains-first None ys y is = cc
contains-first (Some z) ys y is = let same : z ≡ y = cc in (0, omega arith, same)

contains-given : {X Y : Type 0} (h : X → Option Y) (xs : List X) (k : ℕ) (x d : X) (y : Y) → k < length xs →
    get_or xs k d ≡ x → h x ≡ Some y → Contains (filter_map h xs) y
contains-given h [] k x d y below at is = absurd (omega (arith, below))
contains-given h (z ∷ xs) zero x d y below at is = contains-first (h z) (filter_map h xs) y (ap h at ∙ is)
contains-given h (z ∷ xs) (suc k) x d y below at is =
    contains-kept (h z) (filter_map h xs) y (contains-given h xs k x d y (omega (arith, below)) at is)

pub exchanges_complete : (claim : ClaimData) (records : List Record) (q : Request) (reply : Reply) →
    IsPair claim records q reply →
    Contains (exchanges_of claim records) (exchange_of q reply)
unfolding exchanges_of
exchanges_complete claim records q reply pair =
    let requests = requests_of claim records in
    let outcome : outcome_of requests reply ≡ Ok (exchange_of q reply) =
    ap (λ (o : Option Refusal). unless_refused o (paired reply (requests_for reply requests))) pair.accepted
    ∙ ap (paired reply) pair.only in
    rw (filter_map-map result_ok (outcome_of requests) (replies_of claim records))
    (contains-given (λ r. result_ok (outcome_of requests r)) (replies_of claim records) pair.given.0 reply reply
    (exchange_of q reply)
    pair.given.1 pair.given.2 (ap result_ok outcome))

-- ---- no two of one

if_some : {Y : Type 0} (o p : Option Y) (P : Y → Type 0) → o ≡ p → ((y : Y) → o ≡ Some y → P y) → IfSome p P
if_some o None P is h = tt
if_some o (Some y) P is h = h y is

module _ {X Y : Type 0} (h : X → Option Y) (R : X → X → Type 0) (S : Y → Y → Type 0)
    (keeps : (a b : X) (x y : Y) → R a b → h a ≡ Some x → h b ≡ Some y → S x y) where
  pairs-first : (a : X) (o : Option Y) → h a ≡ o → (xs : List X) → All (R a) xs → AllPairs S (filter_map h xs) →
      AllPairs S (cons_option o (filter_map h xs))
  pairs-first a None is xs later rest = rest
  pairs-first a (Some x) is xs later rest =
      AllPairs-cons S x (filter_map h xs)
      (All-filter_map h (S x) xs (λ k d below. if_some (h (get_or xs k d)) (h (get_or xs k d)) (S x) refl
      (λ y at. keeps a (get_or xs k d) x y (later k d below) is at)))
      rest

  AllPairs-filter_map : (xs : List X) → AllPairs R xs → AllPairs S (filter_map h xs)
  AllPairs-filter_map [] pairs = λ i j d less below. absurd (omega (arith, below))
  AllPairs-filter_map (a ∷ xs) pairs =
      pairs-first a (h a) refl xs (λ k d below. pairs 0 (suc k) d (omega arith) (omega (arith, below)))
      (AllPairs-filter_map xs (λ i j d less below. pairs (suc i) (suc j) d (omega (arith, less)) (omega (
        arith,
        below,
      ))))

reply_head : (claim : ClaimData) (r : Record) (reply : Reply) → reply_of claim r ≡ Some reply → reply.head ≡ r.head
unfolding reply_of
reply_head claim r reply is = search rules

outcome-number : (requests : List Request) (reply : Reply) (x : Exchange) →
    result_ok (outcome_of requests reply) ≡ Some x → x.reply ≡ reply.head.number
outcome-number requests reply x is = search rules

pub exchanges_distinct : (claim : ClaimData) (records : List Record) →
    AllPairs (λ (a b : Record). a.head.number ≢ b.head.number) records →
    AllPairs (λ (x y : Exchange). x.reply ≢ y.reply) (exchanges_of claim records)
unfolding exchanges_of replies_of
exchanges_distinct claim records numbered =
    let requests = requests_of claim records in
    let Apart = λ (a b : Reply). a.head.number ≢ b.head.number in
    let replies = AllPairs-filter_map (reply_of claim) (λ (a b : Record). a.head.number ≢ b.head.number) Apart
    (λ a b x y differ is_a is_b same. differ (ap (λ (h : RecordHead). h.number) (sym (reply_head claim a x is_a))
    ∙ same ∙ ap (λ (h : RecordHead). h.number) (reply_head claim b y is_b)))
    records numbered in
    rw (filter_map-map result_ok (outcome_of requests) (replies_of claim records))
    (AllPairs-filter_map (λ reply. result_ok (outcome_of requests reply)) Apart (λ
    (x y : Exchange). x.reply ≢ y.reply)
    (λ a b x y differ is_a is_b same. differ (sym (outcome-number requests a x is_a) ∙ same
    ∙ outcome-number requests b y is_b))
    (replies_of claim records) replies)

pub ruleset exactly_the_pairs = (exchanges_sound, exchanges_complete)
