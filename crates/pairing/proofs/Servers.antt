-- To which server a packet is a request, and of which it is a reply.
use Rattle.pairing.proofs.Common.{◌≡◌, ◌∙◌, ℕ, ◌<◌, List, [], Bool, true, false, Option, Some, None, refl, ap, get_or, arith, cond, AllPairs, ◌≢◌, ◌↔◌, ◌&&◌, ◌==◌, nat_lt, slice_get, if◌then◌else◌, bytes_eq, nat_tests, position-Some, position_or_len_is, bytes_eq-Decides, mode_of, version_of, Packet, ntp_port, ClaimData, IsReplyOf, IsRequestTo, client_mode, server_mode, is_reply, is_request, replying_server, requested_server, server_at, rules}
use Rattle.std.proofs.lemmas.Bool.{and_parts, eqb-true}
use Rattle.std.proofs.lemmas.Option.{get_or_from_slice_get, slice_get-get_or, slice_get_within}

-- the server at an address
server_at-found : (claim : ClaimData) (address : List ℕ) (server : ℕ) → server_at claim address ≡ Some server →
    slice_get claim.servers server ≡ Some address
server_at-found claim address server is =
    let found = position-Some (λ (s : List ℕ). bytes_eq s address) claim.servers server [] is in
    slice_get-get_or claim.servers server [] found.0 ∙ ap Some ((bytes_eq-Decides
    (get_or claim.servers server []) address).0 found.1)

place_is : (n len s : ℕ) → n ≡ s → s < len → cond (nat_lt n len) (Some n) None ≡ Some s
place_is n len s is below = let yes_below : nat_lt s len ≡ true = below_is s len below in rw (is, yes_below) refl
  where
    below_is : (a b : ℕ) → a < b → nat_lt a b ≡ true
    below_is a b h = grind (arith, nat_tests)

differs : (b : Bool) → (b ≡ true → ⊥) → b ≡ false
differs true h = absurd (h refl)
differs false h = refl

server_at-is : (claim : ClaimData) (address : List ℕ) (server : ℕ) →
    AllPairs (λ (a b : List ℕ). a ≢ b) claim.servers →
    slice_get claim.servers server ≡ Some address → server_at claim address ≡ Some server
server_at-is claim address server apart at =
    search (rules, slice_get_within, get_or_from_slice_get, position_or_len_is, differs, bytes_eq-Decides, place_is)

if_some : (b : Bool) (o : Option ℕ) (s : ℕ) → (if b then o else None) ≡ Some s → (b ≡ true) × (o ≡ Some s)
if_some true o s is = (refl, is)
if_some false o s is = cc

all_request_tests : (from : Bool) (port mode version : ℕ) → from ≡ true → port ≡ ntp_port → mode ≡ client_mode →
    version ≡ 4 →
    (from && port == ntp_port && mode == client_mode && version == 4) ≡ true
all_request_tests from port mode version a b c d = grind (arith, nat_tests)

all_reply_tests : (to : Bool) (port mode : ℕ) → to ≡ true → port ≡ ntp_port → mode ≡ server_mode →
    (to && port == ntp_port && mode == server_mode) ≡ true
all_reply_tests to port mode a b c = grind (arith, nat_tests)

module _ (claim : ClaimData) (p : Packet) (server : ℕ) where
  request-sound : requested_server claim p ≡ Some server → IsRequestTo claim server p
  unfolding requested_server
  request-sound is =
      let parts = if_some (is_request claim p) (server_at claim p.datagram.destination) server is in
      let (rest, version) = and_parts _ _ parts.0 in
      let (rest, mode) = and_parts _ _ rest in
      let (from, port) = and_parts _ _ rest in
      record {
        from_client = (bytes_eq-Decides p.datagram.source claim.client).0 from;
        to_server = server_at-found claim p.datagram.destination server parts.1;
        to_port = eqb-true _ _ port;
        mode = eqb-true _ _ mode;
        version = eqb-true _ _ version;
      }

  request-complete : AllPairs (λ (a b : List ℕ). a ≢ b) claim.servers → IsRequestTo claim server p →
      requested_server claim p ≡ Some server
  unfolding requested_server
  request-complete apart is =
      let tests : is_request claim p ≡ true =
      all_request_tests (bytes_eq p.datagram.source claim.client) p.datagram.destination_port (mode_of p.header)
      (version_of p.header)
      ((bytes_eq-Decides p.datagram.source claim.client).1 is.from_client) is.to_port is.mode is.version in
      ap (λ (b : Bool). if b then server_at claim p.datagram.destination else None) tests
      ∙ server_at-is claim p.datagram.destination server apart is.to_server

  reply-sound : replying_server claim p ≡ Some server → IsReplyOf claim server p
  unfolding replying_server
  reply-sound is =
      let parts = if_some (is_reply claim p) (server_at claim p.datagram.source) server is in
      let (rest, mode) = and_parts _ _ parts.0 in
      let (to, port) = and_parts _ _ rest in
      record {
        from_server = server_at-found claim p.datagram.source server parts.1;
        from_port = eqb-true _ _ port;
        to_client = (bytes_eq-Decides p.datagram.destination claim.client).0 to;
        mode = eqb-true _ _ mode;
      }

  reply-complete : AllPairs (λ (a b : List ℕ). a ≢ b) claim.servers → IsReplyOf claim server p →
      replying_server claim p ≡ Some server
  unfolding replying_server
  reply-complete apart is =
      let tests : is_reply claim p ≡ true =
      all_reply_tests (bytes_eq p.datagram.destination claim.client) p.datagram.source_port (mode_of p.header)
      ((bytes_eq-Decides p.datagram.destination claim.client).1 is.to_client) is.from_port is.mode in
      ap (λ (b : Bool). if b then server_at claim p.datagram.source else None) tests
      ∙ server_at-is claim p.datagram.source server apart is.from_server

  pub request_exact : AllPairs (λ (a b : List ℕ). a ≢ b) claim.servers →
      (requested_server claim p ≡ Some server) ↔ IsRequestTo claim server p
  request_exact apart = (request-sound, request-complete apart)

  pub reply_exact : AllPairs (λ (a b : List ℕ). a ≢ b) claim.servers →
      (replying_server claim p ≡ Some server) ↔ IsReplyOf claim server p
  reply_exact apart = (reply-sound, reply-complete apart)
