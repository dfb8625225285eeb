-- What is shown of a thing at its place in a list, as the exchange of a held one.
use Rattle.audit_text.proofs.Common.{◌≡◌, ◌∙◌, ◌<◌, ℕ, List, length, map, get_or, All, Some, sym, subst, slice_get, get_or-map, length-map, Exchange, IsLawful, arith}
use Rattle.std.proofs.lemmas.Option.{slice_get-get_or, slice_get-map}

module _ {X Y : Type 0} (shown : X → Y) (held : List X) (i : ℕ) (d : X) (within : i < length held)
    (x : Y) (is : x ≡ shown (get_or held i d)) where
  -- it is the one at its place
  stands_at : (e : Y) → x ≡ get_or (map shown held) i e
  stands_at e = is ∙ sym (get_or-map shown held i d e within)

  -- which is one of them
  is_inside : i < length (map shown held)
  is_inside = rw (length-map held shown) within

  -- and is found there
  pub found_at : slice_get (map shown held) i ≡ Some x
  found_at = grind (arith, slice_get-map, shown, held, slice_get-get_or, within, is)

-- an exchange keeps the limits that all keep
module _ {X : Type 0} (shown : X → Exchange) (held : List X) (i : ℕ) (d : X) (within : i < length held)
    (x : Exchange) (is : x ≡ shown (get_or held i d)) where
  pub keeps_limits : (servers : ℕ) → All (IsLawful servers) (map shown held) → IsLawful servers x
  keeps_limits servers each = subst (IsLawful servers) (sym (stands_at shown held i d within x is x))
      (each i x (is_inside shown held i d within x is))
