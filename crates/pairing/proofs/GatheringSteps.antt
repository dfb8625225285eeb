-- One more record gathered.
use Rattle.pairing.proofs.Common.{◌≡◌, ◌∙◌, ℕ, ◌+◌, List, [], ◌∷◌, ◌++◌, Option, Some, None, refl, sym, ap, length-append, arith, append-nil, map, filter, count_by, is_none, IsSome, if◌then◌else◌, cons_option, option_and_then, option_map, map-append, filter-append, filter_map-append, RecordHead, Record, Packet, packet_of, ClaimData, Counts, CompactExchange, IndexedRequest, Key, Message, Refusal, Version, zero_counts, count_for, IsGathered, IsGatheredFrom, counts_with, is_accepted, is_early, is_for, indexed_in, compact_in, compact_of, key_of, indexed_of, Request, Reply, requested_server, replying_server, request_to, reply_from, request_in, reply_in, request_of, reply_of, requests_of, replies_of, refusal_of, message_of_reply, message_in, message_of, rules}
use Rattle.pairing.specs.declared.message.Message.TheVariants.{Request as Asks, Refused, Reply as Waits}
use Rattle.pairing.specs.Index.{request_at}
use Rattle.pairing.proofs.JoinSteps.{keeps_others, count_by-push, count_for-with_refusal}

pub gathered_start : (claim : ClaimData) → IsGatheredFrom claim [] [] [] zero_counts
unfolding requests_of replies_of
gathered_start claim = search rules

-- What a record's message says about its request and its reply.
pub data Says (head : RecordHead) : Option Message → List Request → List Reply → Type 0 where
  silent : Says head None [] []
  asks : (key : Key) → Says head (Some (Asks key)) (request_at key head ∷ []) []
  refused : (reply : Reply) (refusal : Refusal) → refusal_of reply.header ≡ Some refusal →
      Says head (Some (Refused refusal)) [] (reply ∷ [])
  accepted : (reply : Reply) → refusal_of reply.header ≡ None →
      Says head (Some (Waits (compact_of reply))) [] (reply ∷ [])

says_judged : (head : RecordHead) (reply : Reply) (o : Option Refusal) → refusal_of reply.header ≡ o →
    Says head (Some (message_of_reply reply)) [] (reply ∷ [])
says_judged head reply None h = rw h (accepted reply h)
says_judged head reply (Some refusal) h = rw h (refused reply refusal h)

says_servers : (head : RecordHead) (p : Packet) (asked answered : Option ℕ) → (IsSome asked → answered ≡ None) →
    Says head
    (elim (option_map (request_to head p) asked) [
      | Some q ↦ Some (Asks (key_of q))
      | None ↦ option_map message_of_reply
          (option_map (reply_from head p) answered)
    ])
    (cons_option (option_map (request_to head p) asked) [])
    (cons_option (option_map (reply_from head p) answered) [])
says_servers head p (Some server) answered apart = rw (apart refl) (asks (key_of (request_to head p server)))
says_servers head p None None apart = silent
says_servers head p None (Some server) apart = says_judged head (reply_from head p server) (refusal_of p.header) refl

pub apart : (claim : ClaimData) (p : Packet) → IsSome (requested_server claim p) → replying_server claim p ≡ None
unfolding requested_server replying_server
apart claim p = search rules

says_packet : (claim : ClaimData) (head : RecordHead) (o : Option Packet) →
    Says head (option_and_then (message_in claim head) o) (cons_option (option_and_then
    (request_in claim head) o) []) (cons_option (option_and_then (reply_in claim head) o) [])
says_packet claim head None = silent
says_packet claim head (Some p) = says_servers head p (requested_server claim p) (replying_server claim p)
    (apart claim p)

pub says : (claim : ClaimData) (r : Record) → Says r.head (message_of claim r) (cons_option (request_of claim r) [])
    (cons_option (reply_of claim r) [])
unfolding message_of request_of reply_of
says claim r = says_packet claim r.head (packet_of r.bytes)

-- the counts of reasons are apart from the others
abbrev renumbered : ℕ → ℕ → ℕ → Counts → Counts
renumbered records requests replies counts = record counts {
  records = records;
  requests = requests;
  replies =
      replies;
}

count_for-renumbered : (reason : Refusal) (records requests replies : ℕ) (counts : Counts) →
    count_for reason (renumbered records requests replies counts) ≡ count_for reason counts
count_for-renumbered Version records requests replies counts = refl
count_for-renumbered _ records requests replies counts = refl

-- one more reply that its own header accepts, or refuses
holds-push : (replies : List Reply) (reply : Reply) (o : Option Refusal) → refusal_of reply.header ≡ o →
    map compact_of (filter is_accepted (replies ++ reply ∷ [])) ≡
    map compact_of (filter is_accepted replies) ++ map compact_of (if is_none o then reply ∷ [] else [])
holds-push replies reply o is =
    ap (map compact_of) (filter-append is_accepted replies (reply ∷ []))
    ∙ map-append compact_of (filter is_accepted replies) (filter is_accepted (reply ∷ []))
    ∙ ap (λ (o : Option Refusal). map compact_of (filter is_accepted replies) ++ map compact_of
    (if is_none o then reply ∷ [] else [])) is

early-push : (reason : Refusal) (replies : List Reply) (reply : Reply) (o : Option Refusal) →
    refusal_of reply.header ≡ o →
    count_by (is_early reason) (replies ++ reply ∷ []) ≡ count_by (is_early reason) replies +
    (if is_for reason o then 1 else 0)
early-push reason replies reply o is =
    count_by-push (is_early reason) replies reply
    ∙ ap (λ (o : Option Refusal). count_by (is_early reason) replies + (if is_for reason o then 1 else 0)) is

module _ {n : ℕ} {requests : List Request} {replies : List Reply} {kept : List IndexedRequest}
    {held : List CompactExchange} {counts : Counts}
    (g : IsGathered n requests replies kept held counts) where
  pub step : (head : RecordHead) (m : Option Message) (asked : List Request) (answered : List Reply) →
      Says head m asked answered →
      IsGathered (n + 1) (requests ++ asked) (replies ++ answered) (kept ++ indexed_in m head) (held ++ compact_in m)
      (counts_with m counts)
  step head m asked answered silent = record {
    keeps = rw (append-nil kept, append-nil requests) g.keeps;
    holds = rw (append-nil held, append-nil replies) g.holds;
    all_records = ap (λ k. k + 1) g.all_records;
    all_requests = rw (append-nil requests) g.all_requests;
    all_replies = rw (append-nil replies) g.all_replies;
    refused = λ reason. rw (append-nil replies) (count_for-renumbered reason
        (counts.records + 1) counts.requests counts.replies counts ∙ g.refused reason);
    warned = g.warned;
  }
  step head m asked answered (asks key) = record {
    keeps = ap (λ ks. ks ++ indexed_of (request_at key head) ∷ []) g.keeps
        ∙ sym (map-append indexed_of requests (request_at key head ∷ []));
    holds = rw (append-nil held, append-nil replies) g.holds;
    all_records = ap (λ k. k + 1) g.all_records;
    all_requests = omega (arith, g.all_requests, length-append requests (request_at key head ∷ []));
    all_replies = rw (append-nil replies) g.all_replies;
    refused = λ reason. rw (append-nil replies) (count_for-renumbered reason (counts.records + 1)
        (counts.requests + 1) counts.replies counts ∙ g.refused reason);
    warned = g.warned;
  }
  step head m asked answered (refused reply refusal is) =
      let counted = renumbered (counts.records + 1) counts.requests (counts.replies + 1) counts in
      let others = keeps_others refusal counted in
      record {
        keeps = rw (append-nil kept, append-nil requests) g.keeps;
        holds = rw (append-nil held) (g.holds ∙ sym (holds-push replies reply (Some refusal) is ∙ append-nil _));
        all_records = others.same_records ∙ ap (λ k. k + 1) g.all_records;
        all_requests = rw (append-nil requests) (others.same_requests ∙ g.all_requests);
        all_replies = others.same_replies ∙ omega (arith, g.all_replies, length-append replies (reply ∷ []));
        refused = λ reason. omega (
          arith,
          early-push reason replies reply (Some refusal) is,
          count_for-with_refusal refusal reason counted,
          count_for-renumbered reason (counts.records + 1) counts.requests (counts.replies + 1) counts,
        );
        warned = others.same_warnings ∙ g.warned;
      }
  step head m asked answered (accepted reply is) = record {
    keeps = rw (append-nil kept, append-nil requests) g.keeps;
    holds = ap (λ hs. hs ++ compact_of reply ∷ []) g.holds ∙ sym (holds-push replies reply None is);
    all_records = ap (λ k. k + 1) g.all_records;
    all_requests = rw (append-nil requests) g.all_requests;
    all_replies = omega (arith, g.all_replies, length-append replies (reply ∷ []));
    refused = λ reason. omega (
      arith,
      early-push reason replies reply None is,
      count_for-renumbered reason (counts.records + 1) counts.requests (counts.replies + 1) counts,
    );
    warned = g.warned;
  }

-- one more record
pub gathered-push : (claim : ClaimData) (done : List Record) (r : Record) (kept : List IndexedRequest)
    (held : List CompactExchange) (counts : Counts) →
    IsGatheredFrom claim done kept held counts →
    IsGatheredFrom claim (done ++ r ∷ []) (kept ++ indexed_in (message_of claim r) r.head)
    (held ++ compact_in (message_of claim r)) (counts_with (message_of claim r) counts)
unfolding requests_of replies_of
gathered-push claim done r kept held counts g =
    rw (
      length-append done (r ∷ []),
      filter_map-append (request_of claim) done (r ∷ []),
      filter_map-append (reply_of claim) done (r ∷ []),
    )
    (step g r.head (message_of claim r) (cons_option (request_of claim r) []) (cons_option (reply_of claim r) [])
    (says claim r))
