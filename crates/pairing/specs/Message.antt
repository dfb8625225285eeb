-- Requests and replies (RFC 5905, section 8): packets between a claim's client and its servers.
use Rattle.std.specs.Prelude.{◌≡◌, ℕ, ◌==◌, ◌&&◌, List, Bool, Option, Some, None, position, slice_get, if◌then◌else◌}
use Rattle.pairing.specs.Common.{option_and_then, option_map, bytes_eq, RecordHead, Record, version_of, mode_of, transmit_of, Packet, packet_of, ntp_port, ClaimData}

-- the modes of a client and of a server (RFC 5905, section 7.3)
abbrev pub client_mode : ℕ
client_mode = 3

abbrev pub server_mode : ℕ
server_mode = 4

-- A packet is a request to the server with this number.
pub record IsRequestTo (claim : ClaimData) (server : ℕ) (p : Packet) : Type 0 where
  pub from_client : p.datagram.source ≡ claim.client
  pub to_server : slice_get claim.servers server ≡ Some p.datagram.destination
  pub to_port : p.datagram.destination_port ≡ ntp_port
  pub mode : mode_of p.header ≡ client_mode
  pub version : version_of p.header ≡ 4

-- A packet is a reply of the server with this number.
pub record IsReplyOf (claim : ClaimData) (server : ℕ) (p : Packet) : Type 0 where
  pub from_server : slice_get claim.servers server ≡ Some p.datagram.source
  pub from_port : p.datagram.source_port ≡ ntp_port
  pub to_client : p.datagram.destination ≡ claim.client
  pub mode : mode_of p.header ≡ server_mode

-- the number of the server with this address
abbrev pub server_at : ClaimData → List ℕ → Option ℕ
server_at claim address = position (λ server. bytes_eq server address) claim.servers

abbrev pub is_request : ClaimData → Packet → Bool
is_request claim p =
    bytes_eq p.datagram.source claim.client && p.datagram.destination_port == ntp_port
    && mode_of p.header == client_mode && version_of p.header == 4

abbrev pub is_reply : ClaimData → Packet → Bool
is_reply claim p =
    bytes_eq p.datagram.destination claim.client && p.datagram.source_port == ntp_port
    && mode_of p.header == server_mode

-- the server that a packet is a request to
unfoldable pub requested_server : ClaimData → Packet → Option ℕ
requested_server claim p =
    if is_request claim p then server_at claim p.datagram.destination else None

-- the server that a packet is a reply of
unfoldable pub replying_server : ClaimData → Packet → Option ℕ
replying_server claim p = if is_reply claim p then server_at claim p.datagram.source else None

-- a request: to which server, from which port of the client, with which transmit timestamp
pub record Request : Type 0 where
  pub server : ℕ
  pub port : ℕ
  pub stamp : ℕ
  pub head : RecordHead

-- a reply: of which server, to which port of the client, and its header
pub record Reply : Type 0 where
  pub server : ℕ
  pub port : ℕ
  pub header : List ℕ
  pub head : RecordHead

abbrev pub request_to : RecordHead → Packet → ℕ → Request
request_to head p server = record {
  server = server;
  port = p.datagram.source_port;
  stamp = transmit_of p.header;
  head = head;
}

abbrev pub reply_from : RecordHead → Packet → ℕ → Reply
reply_from head p server = record {
  server = server;
  port = p.datagram.destination_port;
  header = p.header;
  head = head;
}

-- the request that a packet is
abbrev pub request_in : ClaimData → RecordHead → Packet → Option Request
request_in claim head p = option_map (request_to head p) (requested_server claim p)

-- the reply that a packet is
abbrev pub reply_in : ClaimData → RecordHead → Packet → Option Reply
reply_in claim head p = option_map (reply_from head p) (replying_server claim p)

-- the request that a record holds
unfoldable pub request_of : ClaimData → Record → Option Request
request_of claim r = option_and_then (request_in claim r.head) (packet_of r.bytes)

-- the reply that a record holds
unfoldable pub reply_of : ClaimData → Record → Option Reply
reply_of claim r = option_and_then (reply_in claim r.head) (packet_of r.bytes)
