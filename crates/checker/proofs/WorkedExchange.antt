-- The worked exchange, computed from the bytes of its capture.
use Rattle.checker.proofs.Common.{◌≡◌, ℕ, ◌<◌, List, [], ◌∷◌, length, take, drop, refl, arith, ⊤, window_low, window_high, worked_claim, worked_exchange, rules}
use Rattle.era_unfold.specs.Ratio.{floor_of, ceiling_of}
use Rattle.era_unfold.specs.declared.unit.Unit.TheVariants.{Micro}
use Rattle.era_unfold.specs.Stamp.{unfolded}
use Rattle.frame_reader.specs.Frame.{word, link_skip, packet_of as ip_packet_of, packet_skip, segment_of, segment_skip, skip_of, fields_at, datagram_of}
use Rattle.ntp_packet.specs.Header.{field, signed_field, leap_of, version_of, mode_of, reference_id_of, root_distance_of}
use Rattle.ntp_packet.specs.Packet.{packet_of}
use Rattle.pairing.specs.Message.{requested_server, replying_server, request_of, reply_of}
use Rattle.pairing.specs.Pairing.{requests_of, replies_of, exchanges_of}
use Rattle.pairing.specs.Refusal.{refusal_of}
use Rattle.pcap_reader.specs.Capture.{IsRecordAt, IsCapture}
use Rattle.checker.specs.WorkedCapture.{request_frame, reply_frame, worked_capture, worked_format, worked_records}

-- what unfolds to compute the packets of frames, and their headers
unfoldable packets_unfold : ⊤
unfolding packet_of datagram_of skip_of link_skip ip_packet_of packet_skip segment_of segment_skip fields_at word
packets_unfold = tt

-- what unfolds to compute requests, replies and their exchange
unfoldable exchanges_unfold : ⊤
unfolding exchanges_of requests_of replies_of request_of reply_of requested_server replying_server refusal_of
exchanges_unfold = tt

-- what unfolds to compute the fields of a header
unfoldable fields_unfold : ⊤
unfolding field signed_field leap_of version_of mode_of reference_id_of root_distance_of
fields_unfold = tt

-- what unfolds to compute times
unfoldable times_unfold : ⊤
unfolding window_low window_high floor_of ceiling_of unfolded
times_unfold = tt

pub is_exchange : exchanges_of worked_claim worked_records ≡ worked_exchange ∷ []
unfolding packets_unfold exchanges_unfold fields_unfold times_unfold
is_exchange = refl

-- a record of 90 bytes at that second, by its number and place
is_record : (number place sub : ℕ) (bytes : List ℕ) → number < 2 → sub < 1000000 → length bytes ≡ 90
    → IsRecordAt Micro number place (record {
      head = record {
        place = place;
        number = number;
        sec = 1000000000;
        sub = sub;
        unit = Micro;
        captured = 90;
        original = 90;
      };
      bytes = bytes;
    })
is_record number place sub bytes few below whole = search rules

pub is_capture : IsCapture worked_capture worked_format worked_records
is_capture = record {
  header = take 24 worked_capture;
  is_header = record {
    ignored = take 8 (drop 8 worked_capture);
    snapshot = take 4 (drop 16 worked_capture);
    ignored_length = refl;
    snapshot_length = refl;
    joined = refl;
  };
  are_records = (
    is_record 0 24 0 request_frame (omega arith) (omega arith) refl,
    (is_record 1 130 20000 reply_frame (omega arith) (omega arith) refl, tt),
  );
  joined = refl;
}

pub ruleset is_captured = (is_capture, is_exchange)
