-- What becomes of a reply that is held, by an index of requests.
use Rattle.std.specs.Prelude.{ℕ, List, map, Option, Some, None, Result, Ok, Err}
use Rattle.pairing.specs.declared.exchange.Exchange.{Exchange}
use Rattle.pairing.specs.declared.compact.CompactExchange.{CompactExchange}
use Rattle.pairing.specs.declared.compact.CompactRequest.{CompactRequest}
use Rattle.pairing.specs.declared.compact.CompactRequest.TheVariants.{Named, Found}
use Rattle.pairing.specs.declared.index.Key.{Key}
use Rattle.pairing.specs.declared.index.Place.{Place}
use Rattle.pairing.specs.declared.index.Place.TheVariants.{One, Several}
use Rattle.pairing.specs.declared.refusal.Refusal.{Refusal}
use Rattle.pairing.specs.declared.refusal.Refusal.TheVariants.{NoRequest, Ambiguous}
use Rattle.pairing.specs.Compact.{shown_with}

-- the one and only request, if the index has this at its key
abbrev pub request_at : Option Place → Result CompactRequest Refusal
request_at None = Err NoRequest
request_at (Some (One width number low)) = Ok (Found width number low)
request_at (Some Several) = Err Ambiguous

-- the request of a reply to this server, by what is known of it
abbrev pub request_by : (Key → Option Place) → ℕ → CompactRequest → Result CompactRequest Refusal
request_by look_up server (Named port stamp) =
    request_at (look_up (record { server = server; port = port; stamp = stamp }))
request_by look_up server (Found width number low) = Ok (Found width number low)

-- the exchange with this request, or why there is none
abbrev pub exchange_by : CompactExchange → Result CompactRequest Refusal → Result Exchange Refusal
exchange_by x (Ok request) = Ok (shown_with request x)
exchange_by x (Err refusal) = Err refusal

-- what becomes of it
abbrev pub outcome_by : (Key → Option Place) → CompactExchange → Result Exchange Refusal
outcome_by look_up x = exchange_by x (request_by look_up x.server x.request)

-- what becomes of each
abbrev pub outcomes_by : (Key → Option Place) → List CompactExchange
    → List (Result Exchange Refusal)
outcomes_by look_up held = map (outcome_by look_up) held
