-- What a record states: a request with this key, a reply that its own header refuses, or one that
-- is held until its request is found.
use Rattle.std.specs.Prelude.{Option, Some, None}
use Rattle.pairing.specs.Common.{option_and_then, option_map, ClaimData, Packet, packet_of, RecordHead, Record}
use Rattle.pairing.specs.declared.message.Message.{Message}
use Rattle.pairing.specs.declared.message.Message.TheVariants.{Request as Asks, Refused, Reply as Waits}
use Rattle.pairing.specs.declared.refusal.Refusal.{Refusal}
use Rattle.pairing.specs.Compact.{compact_of}
use Rattle.pairing.specs.Index.{key_of}
use Rattle.pairing.specs.Message.{Reply, request_in, reply_in}
use Rattle.pairing.specs.Refusal.{refusal_of}

-- a reply, if its header gives this reason to refuse it
abbrev pub judged_by : Option Refusal → Reply → Message
judged_by None reply = Waits (compact_of reply)
judged_by (Some refusal) reply = Refused refusal

abbrev pub message_of_reply : Reply → Message
message_of_reply reply = judged_by (refusal_of reply.header) reply

-- a packet
abbrev pub message_in : ClaimData → RecordHead → Packet → Option Message
message_in claim head p =
    elim (request_in claim head p) [
      | Some q ↦ Some (Asks (key_of q))
      | None ↦ option_map message_of_reply (reply_in claim head p)
    ]

-- a record
unfoldable pub message_of : ClaimData → Record → Option Message
message_of claim r = option_and_then (message_in claim r.head) (packet_of r.bytes)
