-- A reply and the one and only request that it names.
use Rattle.std.specs.Prelude.{◌≡◌, List, [], ◌∷◌, Contains, None}
use Rattle.pairing.specs.Common.{Record, origin_of, ClaimData}
use Rattle.pairing.specs.declared.exchange.Exchange.{Exchange}
use Rattle.pairing.specs.Message.{Request, Reply}
use Rattle.pairing.specs.Pairing.{requests_of, replies_of, requests_for, exchange_of}
use Rattle.pairing.specs.Refusal.{refusal_of}

-- a reply of these records that its own header doesn't refuse, and the one and only request of
-- these records that it may be one to
pub record IsPair (claim : ClaimData) (records : List Record) (q : Request)
    (reply : Reply) : Type 0 where
  pub given : Contains (replies_of claim records) reply
  pub accepted : refusal_of reply.header ≡ None
  pub only : requests_for reply (requests_of claim records) ≡ q ∷ []

-- a request and a reply that name each other
pub record NameEachOther (q : Request) (reply : Reply) : Type 0 where
  pub server : reply.server ≡ q.server
  pub port : reply.port ≡ q.port
  pub stamp : origin_of reply.header ≡ q.stamp

-- the exchange of such a pair
pub record IsExchangeOf (claim : ClaimData) (records : List Record) (x : Exchange) : Type 0 where
  pub request : Request
  pub reply : Reply
  pub pair : IsPair claim records request reply
  pub named : NameEachOther request reply
  pub made : x ≡ exchange_of request reply
