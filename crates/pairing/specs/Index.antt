-- What the requests of a capture are at each key, and as they are kept.
use Rattle.std.specs.Prelude.{◌≡◌, ◌==◌, ◌&&◌, List, [], ◌∷◌, filter, Bool, Option, Some, None}
use Rattle.pcap_reader.specs.declared.format.RecordHead.{RecordHead}
use Rattle.pairing.specs.declared.index.Key.{Key}
use Rattle.pairing.specs.declared.index.IndexedRequest.{IndexedRequest}
use Rattle.pairing.specs.declared.index.Place.{Place}
use Rattle.pairing.specs.declared.index.Place.TheVariants.{One, Several}
use Rattle.pairing.specs.Message.{Request}
use Rattle.pairing.specs.CompactWindow.{tick_of, width_of}

-- whether two keys are the same
abbrev pub same_key : Key → Key → Bool
same_key a b = a.server == b.server && (a.port == b.port && a.stamp == b.stamp)

-- what names a request
abbrev pub key_of : Request → Key
key_of q = record { server = q.server; port = q.port; stamp = q.stamp }

-- the request that a record holds at this key
abbrev pub request_at : Key → RecordHead → Request
request_at k head = record { server = k.server; port = k.port; stamp = k.stamp; head = head }

-- what is kept of a request
abbrev pub indexed_of : Request → IndexedRequest
indexed_of q = record {
  key = key_of q;
  width = width_of q.head;
  number = q.head.number;
  low = tick_of q.head;
}

-- none, one or several
abbrev pub place_of : List Request → Option Place
place_of [] = None
place_of (q ∷ []) = Some (One (width_of q.head) q.head.number (tick_of q.head))
place_of (q ∷ other ∷ others) = Some Several

-- the requests with this key
abbrev pub having : Key → List Request → List Request
having k requests = filter (λ q. same_key k (key_of q)) requests

-- A look-up at any key is none, one or several as these requests have it.
abbrev pub Indexes : (Key → Option Place) → List Request → Type 0
Indexes look_up requests = (k : Key) → look_up k ≡ place_of (having k requests)

-- the requests with this key, as they are kept
abbrev pub indexed_with : Key → List IndexedRequest → List IndexedRequest
indexed_with k items = filter (λ x. same_key k x.key) items

-- none, one or several of them
abbrev pub place_at : List IndexedRequest → Option Place
place_at [] = None
place_at (x ∷ []) = Some (One x.width x.number x.low)
place_at (x ∷ other ∷ others) = Some Several

-- the look-up among these
abbrev pub found_in : List IndexedRequest → Key → Option Place
found_in items k = place_at (indexed_with k items)

-- A look-up at any key is none, one or several as these have it.
abbrev pub Finds : (Key → Option Place) → List IndexedRequest → Type 0
Finds look_up items = (k : Key) → look_up k ≡ found_in items k
