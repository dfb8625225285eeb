-- What an exchange that is held shares with the exchange that it says.
use Rattle.pairing.proofs.Common.{◌≡◌, refl, CompactExchange, CompactRequest, Named, Found, exchange_shown, shown_with}

server_with : (request : CompactRequest) (x : CompactExchange) → x.server ≡ (shown_with request x).server
server_with (Named port stamp) x = refl
server_with (Found width number low) x = refl

reference_with : (request : CompactRequest) (x : CompactExchange) → x.reference ≡ (shown_with request x).reference
reference_with (Named port stamp) x = refl
reference_with (Found width number low) x = refl

pub server_is : (x : CompactExchange) → x.server ≡ (exchange_shown x).server
unfolding exchange_shown
server_is x = server_with x.request x

pub reference_is : (x : CompactExchange) → x.reference ≡ (exchange_shown x).reference
unfolding exchange_shown
reference_is x = reference_with x.request x
