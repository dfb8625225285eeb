-- Each exchange in the frames of a capture is collected.
use Rattle.audit.proofs.Common.{◌≡◌, ◌≢◌, ℕ, zero, suc, ◌&&◌, ◌==◌, ℤ, pos, Bool, true, List, [], ◌∷◌, map, Option, Some, refl, sym, ap, ◌∙◌, subst, arith, AllPairs, Contains, slice_get, filter, filter_map, cons_option, cond-true, cond-false, nat_tests, slice_get-get_or, Unit as TimeUnit, IsUnfolded, Record, origin_of, receive_of, transmit_of, ClaimData, Exchange, Request, Reply, request_of, reply_of, request_to, reply_from, IsPair, requests_of, replies_of, answers, exchange_of, exchanges_of, low_of, high_of, by_test, CapturedFrame, frame_of, IsWindowOf, IsExchangeIn, SameExchange, IsAmong, FrameLaws}
use Rattle.audit.proofs.PacketParts.{usable}
use Rattle.audit.proofs.RecordFrames.{SaidBy, frame_at, said_by}
use Rattle.audit.proofs.ExchangeRecords.{AreInPlace, given_among, gives_reply, gives_request, holds_request, three_pass, distance_is, window_at}
use Rattle.audit.proofs.ClaimText.{floor_same, ceiling_same}

-- ---- lists

module _ {X Y : Type 0} (f : X → Option Y) where
  module _ (p : Y → Bool) where
    skipped : (o : Option Y) (ys rest : List Y) → ((y : Y) → o ≡ Some y → p y ≡ true → ⊥)
        → filter p ys ≡ rest → filter p (cons_option o ys) ≡ rest
    skipped x0 ys rest fails is = grind (arith, by_test, cond-false, filter)

    taken : (o : Option Y) (ys : List Y) (y : Y) → o ≡ Some y → p y ≡ true → filter p ys ≡ []
        → filter p (cons_option o ys) ≡ y ∷ []
    taken x0 ys y is passes none = grind (arith, cond-true, filter)

    -- if nothing that is given passes, nothing is kept
    none_kept : (xs : List X)
        → ((k : ℕ) (x : X) (y : Y) → slice_get xs k ≡ Some x → f x ≡ Some y → p y ≡ true → ⊥)
        → filter p (filter_map f xs) ≡ []
    none_kept [] fails = refl
    none_kept (first ∷ xs) fails =
        skipped (f first) (filter_map f xs) [] (λ y is passes. fails 0 first y refl is passes)
        (none_kept xs (λ k x y at is passes. fails (suc k) x y at is passes))

    -- if what passes is given at one place only, it alone is kept
    lone_kept : (xs : List X) (k : ℕ) (x : X) (y : Y) → slice_get xs k ≡ Some x → f x ≡ Some y → p y ≡ true
        → ((j : ℕ) (z : X) (w : Y) → slice_get xs j ≡ Some z → f z ≡ Some w → p w ≡ true → j ≡ k)
        → filter p (filter_map f xs) ≡ y ∷ []
    lone_kept [] k x y at is passes only = absurd cc
    lone_kept (first ∷ xs) zero x y at is passes only =
        let same : first ≡ x = cc in
        taken (f first) (filter_map f xs) y (ap f same ∙ is) passes
        (none_kept xs (λ j z w there gives passes'.
        let e : suc j ≡ 0 = only (suc j) z w there gives passes' in omega (arith, e)))
    lone_kept (first ∷ xs) (suc k) x y at is passes only =
        skipped (f first) (filter_map f xs) (y ∷ [])
        (λ w gives passes'. let e : 0 ≡ suc k = only 0 first w refl gives passes' in omega (arith, e))
        (lone_kept xs k x y at is passes (λ j z w there gives passes'.
        let e : suc j ≡ suc k = only (suc j) z w there gives passes' in omega (arith, e)))

-- ---- what is one

-- a frame has one window
window_same : (unit : TimeUnit) (frame : CapturedFrame) (a b c d : ℤ) → IsWindowOf unit frame a b
    → IsWindowOf unit frame c d → (a ≡ c) × (b ≡ d)
window_same unit frame a b c d x y = grind (arith, pos, floor_same, ceiling_same)

three_same : (a b c d e f : ℕ) → (a == b && (c == d && e == f)) ≡ true → (a ≡ b) × (c ≡ d) × (e ≡ f)
three_same a b c d e f h = grind (arith, nat_tests)

-- ---- exchanges

module _ (laws : FrameLaws)
    (one_tick : (stamp : ℕ) (near s t : ℤ) → IsUnfolded stamp near s → IsUnfolded stamp near t → s ≡ t)
    (claim : ClaimData) (apart : AllPairs (λ a b. a ≢ b) claim.servers)
    (unit : TimeUnit) (records : List Record) (given : AreInPlace unit records) where
  module _ (x : Exchange) (is : IsExchangeIn claim unit (map frame_of records) x) where
    asked : SaidBy records x.request is.request
    asked = said_by records x.request is.request is.request_stands

    answered : SaidBy records x.reply is.reply
    answered = said_by records x.reply is.reply is.reply_stands

    abbrev q : Request
    q = request_to asked.by.head is.asks.request x.server

    abbrev reply : Reply
    reply = reply_from answered.by.head is.packet x.server

    pair : IsPair claim records q reply
    unfolding requests_of replies_of
    pair =
        let gives_q = gives_request laws claim apart asked.by (given.bytes x.request asked.by asked.stands) x.server
        is.asks.request (rw (← asked.is) at is.asks.held) is.asks.to_server in
        let gives_r = gives_reply laws claim apart answered.by (given.bytes x.reply answered.by answered.stands)
        x.server is.packet (rw (← answered.is) at is.answers) is.of_server in
        record {
          given = given_among (reply_of claim) records x.reply answered.by reply answered.stands gives_r;
          accepted = (usable is.packet.header).1 is.usable;
          only = lone_kept (request_of claim) (answers reply) records x.request asked.by q asked.stands gives_q
              (three_pass x.server x.server _ _ _ _ refl (sym is.asks.port) (sym is.asks.stamp))
              (λ j r other there gives passes.
              let (server, port, stamp) = three_same x.server other.server reply.port other.port
              (origin_of reply.header) other.stamp passes in
              is.only j (frame_of r) (frame_at records j r there)
              (holds_request laws claim apart r (given.bytes j r there) other reply.head is.packet x.server gives
              (record { server = server; port = port; stamp = stamp })));
        }

    same : SameExchange x (exchange_of q reply)
    same =
        let t1 = window_same unit (frame_of asked.by) x.t1_low x.t1_high (low_of asked.by.head) (high_of asked.by.head)
        (rw (← asked.is) at is.t1)
        (window_at laws claim apart unit records given x.request asked.by asked.stands) in
        let t4 = window_same unit (frame_of answered.by) x.t4_low x.t4_high (low_of answered.by.head)
        (high_of answered.by.head) (rw (← answered.is) at is.t4)
        (window_at laws claim apart unit records given x.reply answered.by answered.stands) in
        let near : (stamp : ℕ) (s : ℤ) → IsUnfolded stamp (low_of asked.by.head) s → IsUnfolded stamp x.t1_low s =
        λ stamp s unfolds. subst (λ (moment : ℤ). IsUnfolded stamp moment s) (sym t1.0) unfolds in
        let y = exchange_of q reply in
        let header = is.packet.header in
        record {
          server = refl;
          request = sym (given.numbered x.request asked.by asked.stands);
          reply = sym (given.numbered x.reply answered.by answered.stands);
          t1_low = t1.0;
          t1_high = t1.1;
          t4_low = t4.0;
          t4_high = t4.1;
          t2 = one_tick (receive_of header) x.t1_low x.t2 y.t2 is.t2
              (near (receive_of header) y.t2 (laws.stamp (receive_of header) (low_of asked.by.head)));
          t3 = one_tick (transmit_of header) x.t1_low x.t3 y.t3 is.t3
              (near (transmit_of header) y.t3 (laws.stamp (transmit_of header) (low_of asked.by.head)));
          distance = is.distance ∙ sym (distance_is laws header is.usable);
        }

    -- if each pair gives its exchange
    pub collected : ((q : Request) (reply : Reply) → IsPair claim records q reply
        → Contains (exchanges_of claim records) (exchange_of q reply)) → IsAmong (exchanges_of claim records) x
    collected complete =
        let there = complete q reply pair in
        let y = exchange_of q reply in
        record {
          place = there.0;
          found = y;
          stands = slice_get-get_or (exchanges_of claim records) there.0 y there.1 ∙ ap Some there.2;
          same = same;
        }
