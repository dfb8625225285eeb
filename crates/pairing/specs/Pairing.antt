-- Which request each reply of a capture answers, and the exchanges that they make (RFC 5905,
-- section 8).
--
-- A reply carries the transmit timestamp of its request as its origin timestamp. Its request is the
-- one and only request of the whole capture to that server, from that port of the client, with that
-- timestamp, wherever it stands. Nothing here says how the records are read.
use Rattle.std.specs.Prelude.{ℕ, ◌==◌, ◌&&◌, ◌||◌, nat_lt, List, [], ◌∷◌, length, map, filter, count_by, Bool, false, ℤ, pos, Option, Some, None, Result, Ok, Err, unwrap_or, if◌then◌else◌}
use Rattle.pairing.specs.Common.{filter_map, result_ok, window_low, window_high, unfolded, RecordHead, Record, leap_of, stratum_of, reference_id_of, origin_of, receive_of, transmit_of, root_distance_of, ClaimData}
use Rattle.pairing.specs.declared.collected.Collected.{Collected}
use Rattle.pairing.specs.declared.counts.Counts.{Counts}
use Rattle.pairing.specs.declared.exchange.Exchange.{Exchange}
use Rattle.pairing.specs.declared.fault.PairFault.{PairFault}
use Rattle.pairing.specs.declared.fault.PairFault.TheVariants.{TooManyExchanges}
use Rattle.pairing.specs.declared.refusal.Refusal.{Refusal}
use Rattle.pairing.specs.declared.refusal.Refusal.TheVariants.{Version, Leap, Stratum, Precision, ZeroStamp, NoRequest, Ambiguous}
use Rattle.pairing.specs.Exchange.{most_exchanges}
use Rattle.pairing.specs.Message.{Request, Reply, request_of, reply_of}
use Rattle.pairing.specs.Refusal.{refusal_of, same_refusal}

-- all requests of a capture, in order
unfoldable pub requests_of : ClaimData → List Record → List Request
requests_of claim records = filter_map (request_of claim) records

-- all replies of a capture, in order
unfoldable pub replies_of : ClaimData → List Record → List Reply
replies_of claim records = filter_map (reply_of claim) records

-- whether a reply is one to this request: they name the same server, port and timestamp
abbrev pub answers : Reply → Request → Bool
answers reply q =
    reply.server == q.server && (reply.port == q.port && origin_of reply.header == q.stamp)

-- the requests that a reply may be one to
abbrev pub requests_for : Reply → List Request → List Request
requests_for reply requests = filter (answers reply) requests

-- the first and the last tick of the window of a record's time
abbrev pub low_of : RecordHead → ℤ
low_of head = pos (window_low head.unit head.sec head.sub)

abbrev pub high_of : RecordHead → ℤ
high_of head = pos (window_high head.unit head.sec head.sub)

-- the root distance that a reply announces; one is always announced if its precision is accepted
abbrev pub distance_of : List ℕ → ℤ
distance_of header = unwrap_or (root_distance_of header) (pos 0)

-- The exchange of a request and its reply. T1 and T4 are the windows of the two records, T2 and T3
-- the receive and transmit timestamps, unfolded near the first tick of the request's window.
abbrev pub exchange_of : Request → Reply → Exchange
exchange_of q reply = record {
  server = reply.server;
  request = q.head.number;
  reply = reply.head.number;
  t1_low = low_of q.head;
  t1_high = high_of q.head;
  t4_low = low_of reply.head;
  t4_high = high_of reply.head;
  t2 = unfolded (receive_of reply.header) (low_of q.head);
  t3 = unfolded (transmit_of reply.header) (low_of q.head);
  distance = distance_of reply.header;
  leap = leap_of reply.header;
  stratum = stratum_of reply.header;
  reference = reference_id_of reply.header;
}

-- the exchange with the one and only request
abbrev pub paired : Reply → List Request → Result Exchange Refusal
paired reply [] = Err NoRequest
paired reply (q ∷ []) = Ok (exchange_of q reply)
paired reply (q ∷ other ∷ others) = Err Ambiguous

-- what becomes of a reply among these requests: its own header is message_of_reply first
abbrev pub unless_refused : Option Refusal → Result Exchange Refusal → Result Exchange Refusal
unless_refused None outcome = outcome
unless_refused (Some refusal) outcome = Err refusal

abbrev pub outcome_of : List Request → Reply → Result Exchange Refusal
outcome_of requests reply =
    unless_refused (refusal_of reply.header) (paired reply (requests_for reply requests))

-- what becomes of each reply of a capture
abbrev pub outcomes_of : ClaimData → List Record → List (Result Exchange Refusal)
outcomes_of claim records = map (outcome_of (requests_of claim records)) (replies_of claim records)

-- the exchanges of a capture, in the order of their replies
unfoldable pub exchanges_of : ClaimData → List Record → List Exchange
exchanges_of claim records = filter_map result_ok (outcomes_of claim records)

-- whether a reply is refused for this reason
abbrev pub is_refused : Refusal → Result Exchange Refusal → Bool
is_refused reason (Ok x) = false
is_refused reason (Err refusal) = same_refusal refusal reason

-- how many are refused for this reason
abbrev pub refused_for : Refusal → List (Result Exchange Refusal) → ℕ
refused_for reason outcomes = count_by (is_refused reason) outcomes

-- whether an exchange's reply warns of a leap second (RFC 5905, section 7.3)
abbrev pub is_warning : Exchange → Bool
is_warning x = x.leap == 1 || x.leap == 2

-- the counts of a capture
unfoldable pub counts_of : ClaimData → List Record → Counts
counts_of claim records = record {
  records = length records;
  requests = length (requests_of claim records);
  replies = length (replies_of claim records);
  version = refused_for Version (outcomes_of claim records);
  leap = refused_for Leap (outcomes_of claim records);
  stratum = refused_for Stratum (outcomes_of claim records);
  precision = refused_for Precision (outcomes_of claim records);
  zero_stamp = refused_for ZeroStamp (outcomes_of claim records);
  no_request = refused_for NoRequest (outcomes_of claim records);
  ambiguous = refused_for Ambiguous (outcomes_of claim records);
  warnings = count_by is_warning (exchanges_of claim records);
}

-- the exchanges of a capture and its counts
pub record Collection : Type 0 where
  pub exchanges : List Exchange
  pub counts : Counts

-- what a value of the program says
abbrev pub data_of : Collected → Collection
data_of c = record { exchanges = c.exchanges.items; counts = c.counts }

-- what is collected of the records of a whole capture
unfoldable pub collection_of : ClaimData → List Record → Result Collection PairFault
collection_of claim records =
    if nat_lt most_exchanges (length (exchanges_of claim records)) then Err TooManyExchanges
    else Ok (record { exchanges = exchanges_of claim records; counts = counts_of claim records })
