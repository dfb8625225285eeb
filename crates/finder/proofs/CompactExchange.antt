-- The exchange at a place of the list that says them, of a claim with any number of servers.
use Rattle.finder.proofs.Common.{◌≡◌, ℕ, ◌<◌, List, Some, length, get_or, sym, ap, ◌∙◌, slice_get, All, get_or-map, length-map, slice_get-get_or, Exchange, All-slice_get}
use Rattle.std.specs.Prelude.{map}
use Rattle.pairing.specs.Exchange.{IsLawful}

module _ {X : Type 0} (shown : X → Exchange) (held : List X) (index : ℕ) (item : X) (x : Exchange)
    (below : index < length held) (is : item ≡ get_or held index item) (says : x ≡ shown item) where
  pub stands_at : slice_get (map shown held) index ≡ Some x
  stands_at =
      slice_get-get_or (map shown held) index x (rw (length-map held shown) below)
      ∙ ap Some (get_or-map shown held index item x below ∙ ap shown (sym is) ∙ sym says)

  pub lawful_of : (servers : ℕ) → All (IsLawful servers) (map shown held) → IsLawful servers x
  lawful_of servers all = All-slice_get (IsLawful servers) (map shown held) index x all stands_at
