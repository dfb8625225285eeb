-- What is read of a certificate keeps its limits.
use Rattle.std.proofs.lemmas.Int.{ints}
use Rattle.cover_certificate.proofs.Common.{◌≡◌, ℕ, suc, ◌+◌, ◌≤◌, List, [], ◌∷◌, length, nat_le, Option, Some, None, Ok, option_map, refl, ap, subst, arith, leb-true, nat_tests, All, codes, Data, Items, no_items, item, items_len, members_among, items_at, unsigned_at, PieceData, NamesSamples, IsReadable, entry_of, each_of, entries_of, piece_of, pieces_from}
use Rattle.std.proofs.lemmas.List.Elements.{All-cons, All-nil}
use Rattle.std.proofs.lemmas.Option.{option_and_then_some}
use Rattle.json_text.proofs.Steps.{after_by, asked_by, given_by}

entry_of-names : (value : Data) (entry : ℕ × ℕ) → entry_of value ≡ Some entry → NamesSamples entry
entry_of-names value entry is = grind (arith, ints, nat_tests, option_and_then_some)

pub entries_of-names : (items : Items) (entries : List (ℕ × ℕ)) → entries_of items ≡ Some entries →
    (length entries ≡ items_len items) × All NamesSamples entries
entries_of-names no_items entries is =
    let same : ◌≡◌ {A = List (ℕ × ℕ)} [] entries = cc in
    subst (λ es. (length es ≡ 0) × All NamesSamples es) same (refl, All-nil NamesSamples)
entries_of-names (item value rest) entries is =
    option_and_then_some (λ first. option_map (λ others. first ∷ others) (each_of entry_of rest)) (entry_of value)
    entries is
    (λ x first e. more x (entries_of rest) first (entries_of-names rest) e)
  where
    more : (x : ℕ × ℕ) (b : Option (List (ℕ × ℕ))) → entry_of value ≡ Some x →
        ((es : List (ℕ × ℕ)) → b ≡ Some es → (length es ≡ items_len rest) × All NamesSamples es) →
        option_map (λ others. x ∷ others) b ≡ Some entries →
        (length entries ≡ suc (items_len rest)) × All NamesSamples entries
    more x None first others e = cc
    more x (Some xs) first others e =
        let same : ◌≡◌ {A = List (ℕ × ℕ)} (x ∷ xs) entries = cc in
        let (sized, named) = others xs refl in
        subst (λ es. (length es ≡ suc (items_len rest)) × All NamesSamples es) same
        (ap suc sized, All-cons NamesSamples x xs (entry_of-names value x first) named)

piece_of-readable : (number : ℕ) (value : Data) (piece : PieceData) → piece_of number value ≡ Ok piece →
    IsReadable piece
piece_of-readable number value piece is =
    let (members, _, e) = given_by _ (members_among (codes "entries" ∷ codes "upto" ∷ []) value) _ is in
    let (upto, _, f) = given_by _ (unsigned_at (codes "upto") value) _ e in
    let (items, _, g) = given_by _ (items_at (codes "entries") value) _ f in
    let (few, h) = asked_by _ (nat_le (items_len items) 32) _ g in
    let (entries, named, k) = given_by _ (entries_of items) _ h in
    let (sized, all) = entries_of-names items entries named in
    let same : ◌≡◌ {A = PieceData} (record { entries = entries; upto = upto }) piece = cc in
    let most : items_len items ≤ 32 = leb-true (items_len items) 32 few in
    subst IsReadable same (record { few = omega arith; named = all })

pub pieces_from-readable : (number : ℕ) (items : Items) (pieces : List PieceData) →
    pieces_from number items ≡ Ok pieces →
    (length pieces ≡ items_len items) × All IsReadable pieces
pieces_from-readable number no_items pieces is =
    let same : ◌≡◌ {A = List PieceData} [] pieces = cc in
    subst (λ ps. (length ps ≡ 0) × All IsReadable ps) same (refl, All-nil IsReadable)
pieces_from-readable number (item value rest) pieces is =
    let (p, first, e) = after_by (piece_of number value) _ is in
    let (ps, others, f) = after_by (pieces_from (number + 1) rest) _ e in
    let (sized, readable) = pieces_from-readable (number + 1) rest ps others in
    let same : ◌≡◌ {A = List PieceData} (p ∷ ps) pieces = cc in
    subst (λ qs. (length qs ≡ suc (items_len rest)) × All IsReadable qs) same
    (ap suc sized, All-cons IsReadable p ps (piece_of-readable number value p first) readable)
