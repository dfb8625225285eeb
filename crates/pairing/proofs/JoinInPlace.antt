-- One more reply joined with its request in place.
use Rattle.pairing.proofs.Common.{◌≡◌, ◌∙◌, ℕ, ◌+◌, ◌<◌, List, [], ◌∷◌, ◌++◌, Option, Result, Ok, Err, refl, sym, ap, length, map, take, drop, get_or, set, arith, append-nil, length-take, IsOk, filter_map, result_ok, get_or-drop, length-map, map-append, take_more_set, Counts, Exchange, CompactExchange, CompactRequest, Named, Found, Key, Place, Refusal, IsJoined, with_leap, with_outcome, with_refusal, exchange_shown, shown_with, exchange_by, outcome_by, outcomes_by, request_by}
use native.Mathlib.Numerals.{unary_clauses}
use Rattle.pairing.proofs.JoinSteps.{joined-push, outcomes-more, too_many}

-- with this request in place of what is known of it
abbrev pub with_request : CompactExchange → CompactRequest → CompactExchange
with_request x request = record x { request = request }

exchange_shown-with_request : (x : CompactExchange) (request : CompactRequest) →
    exchange_shown (with_request x request) ≡ shown_with request x
unfolding exchange_shown
exchange_shown-with_request x (Named port stamp) = refl
exchange_shown-with_request x (Found width number low) = refl

leap-shown_with : (x : CompactExchange) (request : CompactRequest) → (shown_with request x).leap ≡ x.leap
leap-shown_with x (Named port stamp) = refl
leap-shown_with x (Found width number low) = refl

-- what stands past the end of a list of replies
abbrev pub blank : CompactExchange
blank = record {
  server = 0;
  leap = 0;
  stratum = 0;
  reference = [];
  reply = 0;
  width = 0;
  low = 0;
  receive = 0;
  transmit = 0;
  distance = 0;
  request = Named 0 0;
}

-- Of these replies the first ones were joined: those with a request stand at the front of the list,
-- and the others are as they were.
module _ (look_up : Key → Option Place) (start counts : Counts) (xs ys : List CompactExchange) (number kept : ℕ)
    (joined : IsJoined start (outcomes_by look_up (take number xs)) (map exchange_shown (take kept ys)) counts)
    (rest : drop number ys ≡ drop number xs) (more : number < length xs) where
  -- the reply that is next
  abbrev reply : CompactExchange
  reply = get_or ys number blank

  same_reply : get_or xs number blank ≡ reply
  same_reply = simp unary_clauses at
      (sym (get_or-drop number xs 0 blank) ∙ ap (λ zs. get_or zs 0 blank) (sym rest) ∙ get_or-drop number ys 0 blank)

  -- its outcome
  next : (o : Result Exchange Refusal) → outcome_by look_up reply ≡ o →
      IsJoined start (outcomes_by look_up (take (number + 1) xs)) (map exchange_shown
      (take kept ys) ++ filter_map result_ok (o ∷ [])) (with_outcome o counts)
  next o is =
      rw (outcomes-more (outcome_by look_up) xs number blank more, same_reply, is)
      (joined-push start counts (outcomes_by look_up (take number xs)) (map exchange_shown (take kept ys)) o joined)

  pub joined-refused : (refusal : Refusal) → Err refusal ≡ request_by look_up reply.server reply.request →
      IsJoined start (outcomes_by look_up (take (number + 1) xs)) (map exchange_shown (take kept ys))
      (with_refusal refusal counts)
  joined-refused refusal is =
      let given = next (Err refusal) (ap (exchange_by reply) (sym is)) in
      rw append-nil at given

  pub joined-found : (request : CompactRequest) → Ok request ≡ request_by look_up reply.server reply.request →
      kept < length ys →
      IsJoined start (outcomes_by look_up (take (number + 1) xs)) (map exchange_shown
      (take (kept + 1) (set ys kept (with_request reply request)))) (with_leap reply.leap counts)
  joined-found request is free =
      let x = with_request reply request in
      let first : map exchange_shown (take (kept + 1) (set ys kept x)) ≡ map exchange_shown (take kept ys)
      ++ shown_with request reply ∷ [] =
      ap (map exchange_shown) (take_more_set ys kept x free)
      ∙ map-append exchange_shown (take kept ys) (x ∷ [])
      ∙ ap (λ (y : Exchange). map exchange_shown (take kept ys) ++ y ∷ [])
      (exchange_shown-with_request reply request) in
      rw (first, ← leap-shown_with reply request) (next (Ok (shown_with request reply))
      (ap (exchange_by reply) (sym is)))

  -- one more would be too many
  pub found_beyond : (request : CompactRequest) → Ok request ≡ request_by look_up reply.server reply.request →
      kept < length ys → (most : ℕ) → kept ≡ most →
      most < length (filter_map result_ok (outcomes_by look_up xs))
  found_beyond request is free most full =
      let found : IsOk (outcome_by look_up (get_or xs number blank)) =
      rw (same_reply, ← is) refl in
      let many : length (map exchange_shown (take kept ys)) ≡ most = omega (
        arith,
        length-map (take kept ys) exchange_shown,
        length-take kept ys,
      ) in
      too_many (outcome_by look_up) xs number blank more most (map exchange_shown (take kept ys)) joined.exchanges_are
      found many
