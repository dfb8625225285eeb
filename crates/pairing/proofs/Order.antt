-- What the order of records, and one more request, change.
use Rattle.std.proofs.lemmas.Int.{ints}
use Rattle.pairing.proofs.Common.{◌≡◌, ◌∙◌, ◌+◌, ◌≤◌, ◌<◌, List, [], ◌∷◌, ◌++◌, Bool, true, Option, Some, None, Err, refl, ap, length, arith, if◌then◌else◌, cons_option, filter_map, filter-append, filter_map-append, Record, RecordHead, ClaimData, Message, Refusal, Ambiguous, Request, Reply, request_of, reply_of, requests_of, replies_of, answers, requests_for, outcome_of, paired, unless_refused, collection_of, counts_of, exchanges_of, refusal_of, message_of, nat_tests, common_steps}
use Rattle.pairing.proofs.GatheringSteps.{Says, silent, says}

-- neighbours of which one gives nothing may change places
one_silent : {X : Type 0} (a b : Option X) (xs : List X) → a ≡ None →
    cons_option a (cons_option b xs) ≡ cons_option b (cons_option a xs)
one_silent None b xs h = refl
one_silent (Some x) b xs h = cc

filter_map-swap : {X Y : Type 0} (h : X → Option Y) (before after : List X) (x y : X) → h x ≡ None →
    filter_map h (before ++ x ∷ y ∷ after) ≡ filter_map h (before ++ y ∷ x ∷ after)
filter_map-swap h before after x y nothing = grind (arith, ints, nat_tests, filter_map-append, one_silent)

length-swap : {X : Type 0} (before after : List X) (x y : X) →
    length (before ++ x ∷ y ∷ after) ≡ length (before ++ y ∷ x ∷ after)
length-swap before after x y = grind (arith, ints, nat_tests, common_steps)

pub collection_swap : (claim : ClaimData) (before after : List Record) (request reply : Record) →
    reply_of claim request ≡ None → request_of claim reply ≡ None →
    collection_of claim (before ++ request ∷ reply ∷ after) ≡ collection_of claim (before ++ reply ∷ request ∷ after)
unfolding collection_of counts_of exchanges_of requests_of replies_of
collection_swap claim before after request reply no_reply no_request =
    grind (arith, ints, nat_tests, filter_map-swap, request_of, length-swap)

several : (reply : Reply) (before after : List Request) (q : Request) → 0 < length (before ++ after) →
    paired reply (before ++ q ∷ after) ≡ Err Ambiguous
several reply [] [] q h = absurd (omega (arith, h))
several reply [] (other ∷ after) q h = refl
several reply (first ∷ []) after q h = refl
several reply (first ∷ second ∷ before) after q h = refl

pub repeated : (before after : List Request) (q : Request) (reply : Reply) → answers reply q ≡ true →
    0 < length (requests_for reply (before ++ after)) →
    refusal_of reply.header ≡ None → outcome_of (before ++ q ∷ after) reply ≡ Err Ambiguous
repeated before after q reply named some passes =
    let parted : requests_for reply (before ++ after) ≡ requests_for reply before ++ requests_for reply after =
    filter-append (answers reply) before after in
    let whole : requests_for reply (before ++ q ∷ after) ≡ requests_for reply before ++ q ∷ requests_for reply after =
    filter-append (answers reply) before (q ∷ after)
    ∙ ap (λ (b : Bool). requests_for reply before ++
    (if b then q ∷ requests_for reply after else requests_for reply after)) named in
    ap (λ (o : Option Refusal). unless_refused o (paired reply (requests_for reply (before ++ q ∷ after)))) passes
    ∙ ap (paired reply) whole
    ∙ several reply (requests_for reply before) (requests_for reply after) q (rw parted at some)

at_most_one : (head : RecordHead) (m : Option Message) (asked : List Request) (answered : List Reply) →
    Says head m asked answered → length asked + length answered ≤ 1
at_most_one head m asked answered silent = omega arith
at_most_one head m asked answered _ = omega arith

length-cons_option : {X : Type 0} (o : Option X) (xs : List X) →
    length (cons_option o xs) ≡ length (cons_option o []) + length xs
length-cons_option None xs = omega arith
length-cons_option (Some x) xs = omega arith

few_messages : (claim : ClaimData) (records : List Record) →
    length (filter_map (request_of claim) records) + length (filter_map (reply_of claim) records) ≤ length records
few_messages claim [] = omega arith
few_messages claim (r ∷ records) =
    omega (
      arith,
      few_messages claim records,
      at_most_one r.head (message_of claim r) (cons_option (request_of claim r) []) (cons_option
          (reply_of claim r) []) (says claim r),
      length-cons_option (request_of claim r) (filter_map (request_of claim) records),
      length-cons_option (reply_of claim r) (filter_map (reply_of claim) records),
    )

pub messages_le : (claim : ClaimData) (records : List Record) →
    length (requests_of claim records) + length (replies_of claim records) ≤ length records
unfolding requests_of replies_of
messages_le = few_messages
