-- Where requests, replies and exchanges come from.
use Rattle.std.specs.Prelude.{◌≡◌, ◌<◌, List, length, slice_get, Some}
use Rattle.pairing.specs.Common.{Record, IsLawfulHead, IsBytes, ClaimData}
use Rattle.pairing.specs.declared.exchange.Exchange.{Exchange}
use Rattle.pairing.specs.Exchange.{IsLawful}
use Rattle.pairing.specs.Message.{Request, Reply}
use Rattle.pairing.specs.Pairing.{low_of, high_of}

-- a request of one of these records, which stands at its number
pub record IsRequestAmong (records : List Record) (q : Request) : Type 0 where
  pub source : Record
  pub stands : slice_get records q.head.number ≡ Some source
  pub same_head : q.head ≡ source.head
  pub lawful : IsLawfulHead q.head

-- a reply of a listed server
pub record IsListedReply (claim : ClaimData) (reply : Reply) : Type 0 where
  pub listed : reply.server < length claim.servers
  pub lawful : IsLawfulHead reply.head
  pub header : IsBytes reply.header

-- a lawful exchange whose request is one of these records, with its window
pub record IsExchangeAmong (claim : ClaimData) (records : List Record) (x : Exchange) : Type 0 where
  pub lawful : IsLawful (length claim.servers) x
  pub source : Record
  pub stands : slice_get records x.request ≡ Some source
  pub same_low : x.t1_low ≡ low_of source.head
  pub same_high : x.t1_high ≡ high_of source.head
