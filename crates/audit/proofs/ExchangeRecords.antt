-- The exchanges of records are exchanges in them.
use Rattle.std.proofs.Common.{rules}
use Rattle.audit.proofs.Common.{by_test, ◌≡◌, ◌≢◌, ℕ, zero, suc, ◌+◌, ◌*◌, ◌<◌, pos, int_lt, Bool, true, ◌&&◌, ◌==◌, List, [], ◌∷◌, ◌++◌, length, map, Option, Some, None, refl, sym, ap, ◌∙◌, subst, arith, All, AllPairs, Contains, slice_get, filter, filter_map, unwrap_or, cons_option, cond-false, nat_tests, take-append_seam, drop-append_seam, All-nil, All-contains, All-filter, All-take, All-drop, IsBytes, Unit as TimeUnit, per_second, window_low, window_high, Endian, Format, Record, IsCapture, spelling, record_spelling, precision_of, precision_ticks_of, root_delay_of, root_dispersion_of, origin_of, receive_of, transmit_of, root_distance_of, Packet, packet_of, ClaimData, Exchange, Request, Reply, IsReplyOf, IsRequestTo, request_of, reply_of, requested_server, replying_server, request_in, reply_in, request_to, reply_from, IsExchangeOf, IsPair, requests_of, replies_of, answers, exchange_of, exchanges_of, low_of, high_of, distance_of, frame_of, HoldsPacket, HoldsRequest, IsUsable, IsWindowOf, IsExchangeIn, FrameLaws, All-cons_option, All-slice_get, NameEachOther, ints}
use Rattle.pcap_reader.specs.declared.format.RecordHead.{RecordHead}
use Rattle.audit.proofs.PacketParts.{usable}
use Rattle.audit.proofs.RecordFrames.{each_record, frame_at, mapped, passed, said_by}

-- ---- lists

module _ {X Y : Type 0} (f : X → Option Y) where
  -- one of these is given for y
  abbrev GivesAt : List X → Y → Type 0
  GivesAt xs y = (k : ℕ) × (x : X) × (slice_get xs k ≡ Some x) × (f x ≡ Some y)

  pub all_given : (xs : List X) → All (GivesAt xs) (filter_map f xs)
  all_given [] = All-nil (GivesAt [])
  all_given (x ∷ xs) =
      All-cons_option (GivesAt (x ∷ xs)) (f x) (filter_map f xs) (λ y is. (0, x, refl, is))
      (λ k d below. let found = all_given xs k d below in (suc found.0, found.1, found.2, found.3))

  kept_among : (o : Option Y) (ys : List Y) (y : Y) → Contains ys y → Contains (cons_option o ys) y
  kept_among None ys y there = there
  kept_among (Some z) ys y (k, below, is) = (suc k, omega (arith, below), is)

  first_among : (o : Option Y) (ys : List Y) (y : Y) → o ≡ Some y → Contains (cons_option o ys) y
  first_among x0 ys y is = grind (arith)

  -- what is given of one of these stands in what is given of all
  pub given_among : (xs : List X) (k : ℕ) (x : X) (y : Y) → slice_get xs k ≡ Some x → f x ≡ Some y
      → Contains (filter_map f xs) y
  given_among [] k x y at is = absurd cc
  given_among (first ∷ xs) zero x y at is = grind (arith, ints, nat_tests, first_among)
  given_among (first ∷ xs) (suc k) x y at is = grind (arith, ints, nat_tests, given_among xs k x y at is, kept_among)

-- what passes a test is kept
kept : {Y : Type 0} (p : Y → Bool) (ys : List Y) (y : Y) → Contains ys y → p y ≡ true → Contains (filter p ys) y
kept p [] y (k, below, is) passes = absurd (omega arith)
kept p (z ∷ ys) y (zero, below, is) passes = let test : p z ≡ true = cc in rw test (0, omega arith, is)
kept p (z ∷ ys) y (suc k, below, is) passes =
    let found = kept p ys y (k, omega (arith, below), is) passes in
    by_test (p z) (λ test. rw test (suc found.0, omega (arith, found.1), found.2)) (λ test. rw test found)

pub three_pass : (a b c d e f : ℕ) → a ≡ b → c ≡ d → e ≡ f → (a == b && (c == d && e == f)) ≡ true
three_pass a b c d e f x y z = grind (arith, nat_tests)

lone : {Y : Type 0} (q y : Y) → Contains (q ∷ []) y → q ≡ y
lone q y (k, below, is) = grind (arith, ints, nat_tests)

-- ---- requests and replies

module _ (laws : FrameLaws) (claim : ClaimData) (apart : AllPairs (λ a b. a ≢ b) claim.servers) (r : Record)
    (bytes : IsBytes r.bytes) where
  -- a record that gives a reply holds its packet
  reply_at : (reply : Reply) → reply_of claim r ≡ Some reply → (p : Packet) × (server : ℕ)
      × HoldsPacket r.bytes p × IsReplyOf claim server p × (reply_from r.head p server ≡ reply)
  unfolding reply_of
  reply_at reply e =
      let (p, given, then) = passed (reply_in claim r.head) (packet_of r.bytes) reply e in
      let (server, found, is) = mapped (reply_from r.head p) (replying_server claim p) reply then in
      (p, server, (laws.packet r.bytes p bytes).0 given, (laws.reply claim p server apart).0 found, is)

  pub gives_reply : (server : ℕ) (p : Packet) → HoldsPacket r.bytes p → IsReplyOf claim server p
      → reply_of claim r ≡ Some (reply_from r.head p server)
  unfolding reply_of
  gives_reply server p held is = grind (arith, laws.packet r.bytes p bytes, laws.reply claim p server apart)

  -- and so does one that gives a request
  request_at : (q : Request) → request_of claim r ≡ Some q → (p : Packet) × (server : ℕ)
      × HoldsPacket r.bytes p × IsRequestTo claim server p × (request_to r.head p server ≡ q)
  unfolding request_of
  request_at q e =
      let (p, given, then) = passed (request_in claim r.head) (packet_of r.bytes) q e in
      let (server, found, is) = mapped (request_to r.head p) (requested_server claim p) q then in
      (p, server, (laws.packet r.bytes p bytes).0 given, (laws.request claim p server apart).0 found, is)

  -- it holds the request that a reply names
  pub holds_request : (q : Request) (head : RecordHead) (p : Packet) (server : ℕ) → request_of claim r ≡ Some q
      → NameEachOther q (reply_from head p server) → HoldsRequest claim server p r.bytes
  holds_request q head p server e named = grind (arith, ints, nat_tests, request_at, request_to, reply_from)

  pub gives_request : (server : ℕ) (p : Packet) → HoldsPacket r.bytes p → IsRequestTo claim server p
      → request_of claim r ≡ Some (request_to r.head p server)
  unfolding request_of
  gives_request server p held is = grind (arith, laws.packet r.bytes p bytes, laws.request claim p server apart)

-- ---- times

some_units : (unit : TimeUnit) → 0 < per_second unit
some_units x0 = grind (arith)

module _ (laws : FrameLaws) where
  window_of : (r : Record) → IsWindowOf r.head.unit (frame_of r) (low_of r.head) (high_of r.head)
  unfolding window_low window_high
  window_of r = search (rules, laws, some_units)

  pub distance_is : (header : List ℕ) → IsUsable header → distance_of header ≡ pos (root_delay_of header * 32768
      + root_dispersion_of header * 65536 + precision_ticks_of (precision_of header))
  unfolding root_distance_of
  distance_is header usable = grind (arith, int_lt, pos, precision_of, unwrap_or, cond-false)

-- ---- exchanges

-- the records stand at their numbers, in one unit, and hold bytes
pub record AreInPlace (unit : TimeUnit) (records : List Record) : Type 0 where
  pub numbered : (k : ℕ) (r : Record) → slice_get records k ≡ Some r → r.head.number ≡ k
  pub in_unit : (k : ℕ) (r : Record) → slice_get records k ≡ Some r → r.head.unit ≡ unit
  pub bytes : (k : ℕ) (r : Record) → slice_get records k ≡ Some r → IsBytes r.bytes

module _ (laws : FrameLaws) (claim : ClaimData) (apart : AllPairs (λ a b. a ≢ b) claim.servers) (unit : TimeUnit)
    (records : List Record) (given : AreInPlace unit records) where
  frame_stands : (k : ℕ) (r : Record) → slice_get records k ≡ Some r
      → slice_get (map frame_of records) r.head.number ≡ Some (frame_of r)
  frame_stands k r at = rw (given.numbered k r at) (frame_at records k r at)

  pub window_at : (k : ℕ) (r : Record) → slice_get records k ≡ Some r
      → IsWindowOf unit (frame_of r) (low_of r.head) (high_of r.head)
  window_at k r at = search (rules, given, window_of)

  exchange_in : (q : Request) (reply : Reply) → IsPair claim records q reply → NameEachOther q reply
      → IsExchangeIn claim unit (map frame_of records) (exchange_of q reply)
  unfolding requests_of replies_of
  exchange_in q reply pair named =
      let (i, r, at_r, gives_r) = All-contains (GivesAt (reply_of claim) records) (replies_of claim records) reply
      (all_given (reply_of claim) records) pair.given in
      let (j, s, at_s, gives_s) = subst (λ (qs : List Request). All (GivesAt (request_of claim) records) qs) pair.only
      (All-filter (answers reply) (GivesAt (request_of claim) records) (requests_of claim records)
      (all_given (request_of claim) records)) 0 q (omega arith) in
      let (p, server, held_r, of_server, is_r) = reply_at laws claim apart r (given.bytes i r at_r) reply gives_r in
      let (u, to, held_s, to_server, is_s) = request_at laws claim apart s (given.bytes j s at_s) q gives_s in
      let pair' : IsPair claim records (request_to s.head u to) (reply_from r.head p server) = rw (is_s, is_r) pair in
      let accepted = (usable p.header).0 pair'.accepted in
      rw (← is_r, ← is_s) (record {
        request = frame_of s;
        reply = frame_of r;
        request_stands = frame_stands j s at_s;
        reply_stands = frame_stands i r at_r;
        packet = p;
        answers = held_r;
        of_server = of_server;
        usable = accepted;
        asks = holds_request laws claim apart s (given.bytes j s at_s) q r.head p server gives_s (rw is_r named);
        only = λ k frame at holds.
            let said = said_by records k frame at in
            let other = said.by in
            let held : HoldsPacket other.bytes holds.request = rw (← said.is) at holds.held in
            let found = request_to other.head holds.request server in
            let gives = gives_request laws claim apart other (given.bytes k other said.stands) server holds.request held
            holds.to_server in
            let passes = three_pass server server p.datagram.destination_port holds.request.datagram.source_port
            (origin_of p.header) (transmit_of holds.request.header) refl (sym holds.port) (sym holds.stamp) in
            let same = lone (request_to s.head u to) found (rw pair'.only at
            (kept (answers (reply_from r.head p server)) (filter_map (request_of claim) records) found
            (given_among (request_of claim) records k other found said.stands gives) passes)) in
            sym (ap (λ (x : Request). x.head.number) same ∙ given.numbered k other said.stands);
        t1 = window_at j s at_s;
        t2 = laws.stamp (receive_of p.header) (low_of s.head);
        t3 = laws.stamp (transmit_of p.header) (low_of s.head);
        t4 = window_at i r at_r;
        distance = distance_is laws p.header accepted;
      })

  pub all_exchanges : All (IsExchangeOf claim records) (exchanges_of claim records) → (k : ℕ) (x : Exchange)
      → slice_get (exchanges_of claim records) k ≡ Some x → IsExchangeIn claim unit (map frame_of records) x
  all_exchanges sound k x at =
      grind (arith, All-slice_get (IsExchangeOf claim records) (exchanges_of claim records) k x sound at, exchange_in)

-- ---- the records of a capture

module _ (xs ys : List ℕ) (all : IsBytes (xs ++ ys)) where
  bytes_before : IsBytes xs
  bytes_before = subst IsBytes (take-append_seam xs ys) (All-take (λ (b : ℕ). b < 256) (length xs) (xs ++ ys) all)

  bytes_after : IsBytes ys
  bytes_after = subst IsBytes (drop-append_seam xs ys) (All-drop (λ (b : ℕ). b < 256) (length xs) (xs ++ ys) all)

bytes_of_each : (order : Endian) (records : List Record) → IsBytes (spelling order records) → (k : ℕ) (r : Record)
    → slice_get records k ≡ Some r → IsBytes r.bytes
bytes_of_each order [] h k r at = absurd cc
bytes_of_each order (first ∷ records) h zero r at =
    grind (
      arith,
      ints,
      nat_tests,
      bytes_after _ first.bytes (bytes_before (record_spelling order first) (spelling order
          records) h),
    )
bytes_of_each order (first ∷ records) h (suc k) r at =
    bytes_of_each order records (bytes_after (record_spelling order first) (spelling order records) h) k r at

pub in_place : (bytes : List ℕ) (format : Format) (records : List Record) → IsBytes bytes
    → IsCapture bytes format records → AreInPlace format.unit records
in_place bytes format records all capture =
    grind (
      arith,
      ints,
      nat_tests,
      each_record format.unit records capture.are_records,
      bytes_of_each format.order records,
      bytes_after capture.header (spelling format.order records),
    )
