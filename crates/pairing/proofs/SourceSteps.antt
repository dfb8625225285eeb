-- Which servers the exchanges are with, one exchange and one server after another.
use Rattle.std.proofs.Common.{if◌then◌else◌}
use Rattle.std.specs.List.{count_by}
use Rattle.std.specs.Bool.{then_some}
use Rattle.pairing.proofs.Common.{◌≡◌, ◌∙◌, ◌+◌, ◌-◌, ◌≤◌, cond, Bool, true, false, ℕ, List, [], ◌∷◌, map, take, drop, length, length-drop, get_or, refl, ap, sym, arith, Some, None, list_all, bytes_eq, map-id, take_all, CompactExchange, exchange_shown, common_reference}
use mir.Val.{bool_byte}
use Rattle.std.proofs.lemmas.List.FromFn.{sum_by-map-range_with_len_more}
use Rattle.std.proofs.lemmas.List.Folds.{list_all-map}
use Rattle.claim_file.specs.Group.{servers_of}

-- the reference of the first, if all others are compared with it
pub first_reference : (held : List CompactExchange) (d : CompactExchange) (reference : List ℕ) → 1 ≤ length held →
    reference ≡ (exchange_shown (get_or held 0 d)).reference → (same : Bool) →
    same ≡ list_all (λ y. bytes_eq (exchange_shown y).reference reference) (take (length held - 1) (drop 1 held)) →
    then_some same reference ≡ common_reference (map exchange_shown held)
first_reference [] d reference some is same all = absurd (omega arith)
first_reference (x ∷ xs) d reference some is same all =
    let whole : take (length (x ∷ xs) - 1) (drop 1 (x ∷ xs)) ≡ xs =
    take_all _ _ (omega (arith, length-drop 1 (x ∷ xs))) in
    rw (sym is, list_all-map (λ y. bytes_eq y.reference reference) exchange_shown xs, sym whole, sym all) (by same)
  where
    by : (b : Bool) → then_some b reference ≡ (if b then Some reference else None)
    by true = refl
    by false = refl

-- one more server
pub server_more : (p : ℕ → Bool) (n : ℕ) → count_by p (servers_of (n + 1)) ≡ count_by p (servers_of n) + cond (p n) 1 0
server_more p n =
    ap (count_by p) (sym (map-id (servers_of (n + 1))))
    ∙ sum_by-map-range_with_len_more (λ s. cond (p s) 1 0) (λ s. s) 0 n n (omega arith)
    ∙ ap (λ xs. count_by p xs + cond (p n) 1 0) (map-id (servers_of n))

-- and the byte that says whether it has an exchange
pub counted_more : (p : ℕ → Bool) (n count byte : ℕ) (seen : Bool) → byte ≡ bool_byte seen → seen ≡ p n →
    count ≡ count_by p (servers_of n) → (count + byte ≡ count_by p (servers_of (n + 1))) × (byte ≤ 1)
counted_more p n count byte seen is passes so_far = (
  ap (λ k. count + k) value ∙ ap (λ k. k + cond (p n) 1 0) so_far ∙ sym (server_more p n),
  rw value (at_most_one (p n)),
)
  where
    as_cond : (b : Bool) → bool_byte b ≡ cond b 1 0
    as_cond true = refl
    as_cond false = refl

    at_most_one : (b : Bool) → cond b 1 0 ≤ 1
    at_most_one true = omega arith
    at_most_one false = omega arith

    value : byte ≡ cond (p n) 1 0
    value = is ∙ as_cond seen ∙ ap (λ b. cond b 1 0) passes
