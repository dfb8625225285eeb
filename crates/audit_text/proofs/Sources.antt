-- The servers of exchanges, however these are held.
use Rattle.audit_text.proofs.Common.{◌≡◌, ℕ, Bool, List, [], ◌∷◌, map, refl, ap, ◌==◌, ◌||◌, Exchange}
use Rattle.std.specs.List.{list_any}
use Rattle.pairing.specs.Sources.{is_source}

pub source_shown : {X : Type 0} (shown : X → Exchange) (server : ℕ) (held : List X) →
    list_any (λ x. (shown x).server == server) held ≡ is_source (map shown held) server
source_shown shown server [] = refl
source_shown shown server (x ∷ held) =
    ap (λ (b : Bool). ((shown x).server == server) || b) (source_shown shown server held)
