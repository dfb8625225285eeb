-- What is held of a reply, and the exchange that it says.
use Rattle.std.specs.Prelude.{ℕ, ◌+◌, pos, unsigned_abs, map}
use Rattle.pairing.specs.Common.{unfolded, leap_of, stratum_of, reference_id_of, origin_of, receive_of, transmit_of}
use Rattle.pairing.specs.declared.exchange.Exchange.{Exchange}
use Rattle.pairing.specs.declared.compact.CompactCollection.{CompactCollection}
use Rattle.pairing.specs.declared.compact.CompactExchange.{CompactExchange}
use Rattle.pairing.specs.declared.compact.CompactRequest.{CompactRequest}
use Rattle.pairing.specs.declared.compact.CompactRequest.TheVariants.{Named, Found}
use Rattle.pairing.specs.Message.{Reply}
use Rattle.pairing.specs.Pairing.{Collection, distance_of}
use Rattle.pairing.specs.CompactWindow.{tick_of, width_of}

-- what is held of a reply when it comes
abbrev pub compact_of : Reply → CompactExchange
compact_of reply = record {
  server = reply.server;
  leap = leap_of reply.header;
  stratum = stratum_of reply.header;
  reference = reference_id_of reply.header;
  reply = reply.head.number;
  width = width_of reply.head;
  low = tick_of reply.head;
  receive = receive_of reply.header;
  transmit = transmit_of reply.header;
  distance = unsigned_abs (distance_of reply.header);
  request = Named reply.port (origin_of reply.header);
}

-- with a request of this record, whose window begins at this tick and is `width` ticks long
abbrev pub exchange_with : ℕ → ℕ → ℕ → CompactExchange → Exchange
exchange_with width number low x = record {
  server = x.server;
  request = number;
  reply = x.reply;
  t1_low = pos low;
  t1_high = pos (low + width);
  t4_low = pos x.low;
  t4_high = pos (x.low + x.width);
  t2 = unfolded x.receive (pos low);
  t3 = unfolded x.transmit (pos low);
  distance = pos x.distance;
  leap = x.leap;
  stratum = x.stratum;
  reference = x.reference;
}

-- with what is known of its request
abbrev pub shown_with : CompactRequest → CompactExchange → Exchange
shown_with (Named port stamp) x = exchange_with 0 0 0 x
shown_with (Found width number low) x = exchange_with width number low x

-- the exchange that is held
unfoldable pub exchange_shown : CompactExchange → Exchange
exchange_shown x = shown_with x.request x

-- what a value of the program says
abbrev pub compact_data : CompactCollection → Collection
compact_data held = record {
  exchanges = map exchange_shown held.exchanges.items;
  counts = held.counts;
}
