-- Every exchange keeps its limits.
use Rattle.std.proofs.Common.{◌*◌}
use Rattle.pairing.proofs.Common.{◌≡◌, ℕ, ◌+◌, ◌^◌, ◌≤◌, ◌<◌, List, [], ◌∷◌, Option, Some, None, Result, Ok, Err, refl, length, get_or, arith, map, All, ℤ, pos, ◌≤ℤ◌, ◌<ℤ◌, IfOk, IfSome, slice_get, cons_option, filter_map, option_and_then, option_map, result_ok, All-nil, All-cons, All-filter, All-map, Unit as SubsecondUnit, per_second, ticks_per_second, window_low, window_high, Record, IsLawfulHead, IsBytes, root_distance_of, Packet, packet_of, ClaimData, Exchange, Refusal, AreGiven, IsGiven, AreLawful, most_exchanges, Request, Reply, replying_server, reply_from, reply_in, request_of, reply_of, requests_of, replies_of, answers, requests_for, exchange_of, paired, unless_refused, outcome_of, exchanges_of, refusal_of, subst, All-tail, nat_tests, rules}
use Rattle.std.proofs.lemmas.Int.{ints}
use Rattle.era_unfold.specs.Stamp.{IsUnfolded, unfolded}
use Rattle.pairing.specs.Provenance.{IsExchangeAmong, IsListedReply, IsRequestAmong}

All-kept : {Y : Type 0} (P : Y → Type 0) (o : Option Y) (ys : List Y) → IfSome o P → All P ys →
    All P (cons_option o ys)
All-kept P None ys h hs = hs
All-kept P (Some y) ys h hs = All-cons P y ys h hs

-- what holds of whatever an option is made to holds of what it gives
pub IfSome-mapped : {X Y : Type 0} (f : X → Y) (P : Y → Type 0) (o : Option X) → ((x : X) → o ≡ Some x → P (f x)) →
    IfSome (option_map f o) P
IfSome-mapped f P None each = tt
IfSome-mapped f P (Some x) each = each x refl

pub IfSome-and_then : {X Y : Type 0} (f : X → Option Y) (P : Y → Type 0) (o : Option X) →
    ((x : X) → o ≡ Some x → IfSome (f x) P) → IfSome (option_and_then f o) P
IfSome-and_then f P None each = tt
IfSome-and_then f P (Some x) each = each x refl

-- what is given of each element
pub All-filter_map : {X Y : Type 0} (h : X → Option Y) (P : Y → Type 0) (xs : List X) →
    All (λ x. IfSome (h x) P) xs → All P (filter_map h xs)
All-filter_map h P [] each = All-nil P
All-filter_map h P (x ∷ xs) each =
    All-kept P (h x) (filter_map h xs) (each 0 x (omega arith)) (All-filter_map h P xs (All-tail (λ x. IfSome
    (h x) P) x xs each))

-- the laws of windows, timestamps and packets that the limits stand on
pub record Laws : Type 0 where
  pub forward : (unit : SubsecondUnit) (sec sub : ℕ) → window_low unit sec sub < window_high unit sec sub
  pub ends : (unit : SubsecondUnit) (sec sub : ℕ) → sub < per_second unit →
      window_high unit sec sub ≤ (sec + 1) * ticks_per_second
  pub unfolds : (stamp : ℕ) (near : ℤ) → IsUnfolded stamp near (unfolded stamp near)
  pub header : (frame : List ℕ) → IsBytes frame → IfSome (packet_of frame) (λ packet. IsBytes packet.header)
  pub least : (bytes : List ℕ) → IsBytes bytes → IfSome (root_distance_of bytes) (λ ticks. pos 1 ≤ℤ ticks)
  pub greatest : (bytes : List ℕ) → IsBytes bytes →
      IfSome (root_distance_of bytes) (λ ticks. ticks <ℤ pos (2 ^ 50))

-- ---- requests and replies

request_of-among : (claim : ClaimData) (records : List Record) (r : Record) → IsLawfulHead r.head →
    slice_get records r.head.number ≡ Some r →
    IfSome (request_of claim r) (IsRequestAmong records)
unfolding request_of
request_of-among claim records r lawful stands = search rules

replying-within : (claim : ClaimData) (p : Packet) → IfSome (replying_server claim p) (λ s. s < length claim.servers)
unfolding replying_server
replying-within claim p = search rules

module _ (claim : ClaimData) (records : List Record) (given : AreGiven records) where
  pub requests-among : All (IsRequestAmong records) (requests_of claim records)
  unfolding requests_of
  requests-among =
      All-filter_map (request_of claim) (IsRequestAmong records) records
      (λ k d below. request_of-among claim records (get_or records k d) (given.each k d below).head
      (given.numbered k d below))

-- ---- exchanges

module _ (laws : Laws) where
  reply_of-listed : (claim : ClaimData) (r : Record) → IsGiven r → IfSome (reply_of claim r) (IsListedReply claim)
  unfolding reply_of
  reply_of-listed claim r given =
      IfSome-and_then (reply_in claim r.head) (IsListedReply claim) (packet_of r.bytes)
      (λ p is. IfSome-mapped (reply_from r.head p) (IsListedReply claim) (replying_server claim p)
      (λ server answered. record {
        listed = subst (λ (o : Option ℕ). IfSome o (λ s. s < length claim.servers)) answered (replying-within claim p);
        lawful = given.head;
        header = subst (λ (o : Option Packet). IfSome o (λ q. IsBytes q.header)) is (laws.header r.bytes given.bytes);
      }))

  replies-listed : (claim : ClaimData) (records : List Record) → AreGiven records →
      All (IsListedReply claim) (replies_of claim records)
  unfolding replies_of
  replies-listed claim records given =
      All-filter_map (reply_of claim) (IsListedReply claim) records
      (λ k d below. reply_of-listed claim (get_or records k d) (given.each k d below))

  module _ (claim : ClaimData) (records : List Record) where
    -- the exchange of a request and a reply
    exchange_of-among : (q : Request) (reply : Reply) → IsRequestAmong records q → IsListedReply claim reply →
        IsExchangeAmong claim records (exchange_of q reply)
    exchange_of-among q reply asked answered = search rules

    paired-among : (reply : Reply) (requests : List Request) → All (IsRequestAmong records) requests →
        IsListedReply claim reply →
        IfOk (paired reply requests) (IsExchangeAmong claim records)
    paired-among reply (q ∷ []) asked answered = exchange_of-among q reply (asked 0 q (omega arith)) answered
    paired-among reply _ asked answered = tt

    unless_refused-among : (o : Option Refusal) (outcome : Result Exchange Refusal) →
        IfOk outcome (IsExchangeAmong claim records) →
        IfOk (unless_refused o outcome) (IsExchangeAmong claim records)
    unless_refused-among None outcome h = h
    unless_refused-among (Some refusal) outcome h = tt

    result_ok-among : (outcome : Result Exchange Refusal) → IfOk outcome (IsExchangeAmong claim records) →
        IfSome (result_ok outcome) (IsExchangeAmong claim records)
    result_ok-among (Ok x) h = h
    result_ok-among (Err refusal) h = tt

    outcome-among : (requests : List Request) (reply : Reply) → All (IsRequestAmong records) requests →
        IsListedReply claim reply →
        IfSome (result_ok (outcome_of requests reply)) (IsExchangeAmong claim records)
    outcome-among requests reply asked answered =
        result_ok-among (outcome_of requests reply)
        (unless_refused-among (refusal_of reply.header) (paired reply (requests_for reply requests))
        (paired-among reply (requests_for reply requests) (All-filter (answers reply)
        (IsRequestAmong records) requests asked) answered))

    pub exchanges-among : AreGiven records → All (IsExchangeAmong claim records) (exchanges_of claim records)
    unfolding exchanges_of
    exchanges-among given =
        let requests = requests_of claim records in
        let replies = replies_of claim records in
        let IsAmong = λ (o : Result Exchange Refusal). IfSome (result_ok o) (IsExchangeAmong claim records) in
        All-filter_map result_ok (IsExchangeAmong claim records) (map (outcome_of requests) replies)
        (All-map IsAmong (outcome_of requests) replies
        (λ k d below. outcome-among requests (get_or replies k d) (requests-among claim records given)
        (replies-listed claim records given k d below)))

  -- what is collected is lawful
  pub exchanges_lawful : (claim : ClaimData) (records : List Record) → AreGiven records →
      length (exchanges_of claim records) ≤ most_exchanges →
      AreLawful (length claim.servers) (exchanges_of claim records)
  exchanges_lawful claim records given few = grind (arith, ints, nat_tests, exchanges-among claim records given)
