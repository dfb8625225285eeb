-- What the checker says about pieces with the best samples.
use Rattle.finder.proofs.Common.{◌≡◌, ℕ, zero, suc, ◌+◌, ◌-◌, ◌<◌, ◌≤◌, ℤ, pos, ◌≤ℤ◌, int_lt, nat_lt, unsigned_abs, Bool, true, false, cond, not, ◌&&◌, ◌||◌, List, [], ◌∷◌, ◌++◌, length, Option, Some, None, Result, Ok, refl, sym, ap, ◌∙◌, subst, arith, append_assoc, add-one, add-zero, slice_get, ◌==◌, list_any, filter_map, cons_option, range_with_len, int_eq, cond-true, cond-false, nat_tests, ints, append-nil, list_any-append, PieceData, ClaimData, IsLawful, Hull, Unbounded, Empty, Bounded, Sample, part_of, part_from, parts_after, unless_refused, hull_fault, parts_fault, verdict_after, verdict_from, Part, Stretch, Yes, No, Why, Cut, Exceeds, Uncovered, is_inside, IsPiece, hull_over, piece_over, shows, stretch_over, best_over, best_entries, best_hull, part_between, parts_named, pieces_from, passes, IsPieceCount, piece_begin_of, AreSamplesOf, HoldsError}
use Rattle.finder.proofs.Best.{best_of_is}
use Rattle.finder.proofs.Known.{hull_laws}
use Rattle.checker.proofs.Hull.{capture_holds}
use Rattle.checker.proofs.Narrow.{of_samples}
use Rattle.finder.proofs.SpanPieces.{end_to_last, piece_of_claim}

-- ---- the entries are accepted

-- one of the parts is of this server
abbrev names : ℕ → List Part → Bool
names server parts = list_any (λ part. part.server == server) parts

same_test : (a b s : ℕ) → a ≡ s → b ≡ s → not (a == b) ≡ false
same_test a b s e f = grind (arith, nat_tests)

other_test : (a s server : ℕ) → a ≡ s → s + 1 ≤ server → (a == server) ≡ false
other_test a s server e later = grind (arith, nat_tests)

module _ (samples : List Sample) (claim : ClaimData) (stretch : Stretch) where
  abbrev after : List Part → List (ℕ × ℕ) → Result (List Part) Why
  after earlier entries = parts_after samples stretch claim.drift_ppb earlier entries

  abbrev over : ℕ → ℕ → List (ℕ × ℕ)
  over s n = filter_map (best_over samples claim stretch) (range_with_len s n)

  abbrev parts : List (ℕ × ℕ) → List Part
  parts entries = parts_named samples claim stretch entries

  -- the best samples of a server that isn't named yet are accepted
  part_accepted : (s : ℕ) (earlier : List Part) (at_low at_high : Option Sample) (low high : Sample)
      → (at_low ≡ Some low) × (at_high ≡ Some high) → (low.server ≡ s) × (high.server ≡ s)
      → names s earlier ≡ false
      → part_from stretch claim.drift_ppb earlier at_low at_high ≡ Ok (part_of low high stretch claim.drift_ppb)
  part_accepted s earlier at_low at_high low high at of new =
      rw (at.0, at.1)
      (cond-false (not (low.server == high.server)) _ _ (same_test low.server high.server s of.0 of.1)
      ∙ cond-false (names low.server earlier) _ _
      (subst (λ (n : ℕ). names n earlier ≡ false) (sym of.0) new))

  part_says : (at_low at_high : Option Sample) (low high : Sample) → at_low ≡ Some low → at_high ≡ Some high
      → part_between stretch claim.drift_ppb at_low at_high ≡ Some (part_of low high stretch claim.drift_ppb)
  part_says at_low at_high low high a b = rw (a, b) refl

  names_more : (earlier : List Part) (part : Part) (s : ℕ) → part.server ≡ s
      → ((server : ℕ) → s ≤ server → names server earlier ≡ false)
      → (server : ℕ) → s + 1 ≤ server → names server (earlier ++ part ∷ []) ≡ false
  names_more earlier part s of new server later =
      list_any-append (λ p. p.server == server) earlier (part ∷ [])
      ∙ rw (new server (omega arith), other_test part.server s server of later) refl

  -- the entries of n servers from number s on are accepted after others
  Accepted : ℕ → ℕ → Type 0
  Accepted s n = (earlier : List Part) → ((server : ℕ) → s ≤ server → names server earlier ≡ false)
      → after earlier (over s n) ≡ Ok (earlier ++ parts (over s n))

  one_accepted : (s n : ℕ) (best : Option (ℕ × ℕ)) → best_over samples claim stretch s ≡ best → Accepted (s + 1) n
      → (earlier : List Part) → ((server : ℕ) → s ≤ server → names server earlier ≡ false)
      → after earlier (cons_option best (over (s + 1) n))
      ≡ Ok (earlier ++ parts (cons_option best (over (s + 1) n)))
  unfolding Accepted
  one_accepted s n None is rest earlier new = rest earlier (λ server later. new server (omega arith))
  one_accepted s n (Some entry) is rest earlier new =
      let best = best_of_is samples s stretch.begin stretch.end claim.drift_ppb entry is in
      let low = best.0.sample in
      let high = best.1.sample in
      let part = part_of low high stretch claim.drift_ppb in
      let said = part_accepted s earlier (slice_get samples entry.0) (slice_get samples entry.1) low high
      (best.0.stands, best.1.stands) (best.0.of_server, best.1.of_server) (new s (omega arith)) in
      let says = part_says (slice_get samples entry.0) (slice_get samples entry.1) low high best.0.stands
      best.1.stands in
      ap (λ (r : Result Part Why). unless_refused r (λ p. after (earlier ++ p ∷ []) (over (s + 1) n))) said
      ∙ rest (earlier ++ part ∷ []) (names_more earlier part s best.0.of_server new)
      ∙ ap Ok (append_assoc earlier (part ∷ []) (parts (over (s + 1) n)))
      ∙ ap (λ (o : Option Part). Ok (earlier ++ cons_option o (parts (over (s + 1) n)))) (sym says)

  accepted : (s n : ℕ) → Accepted s n
  unfolding Accepted
  accepted s zero earlier new = ap Ok (sym (append-nil earlier))
  accepted s (suc n) earlier new =
      one_accepted s n (best_over samples claim stretch s) refl (accepted (s + 1) n) earlier new

  -- the entries of a piece say what they name
  pub entries_accepted : after [] (best_entries samples claim stretch)
      ≡ Ok (parts_named samples claim stretch (best_entries samples claim stretch))
  unfolding Accepted
  entries_accepted = accepted 0 (length claim.servers) [] (λ server later. refl)

  -- and their hull decides
  pub entries_fault : parts_fault claim (after [] (best_entries samples claim stretch))
      ≡ hull_fault claim.bound (best_hull samples claim stretch)
  unfolding best_hull
  entries_fault = ap (parts_fault claim) entries_accepted

-- ---- the hull of a piece

pub inside_passes : (bound : ℤ) (hull : Hull) → is_inside bound hull ≡ true → hull_fault bound hull ≡ None
inside_passes bound Unbounded e = absurd cc
inside_passes bound Empty e = absurd cc
inside_passes bound (Bounded lo hi) e = cond-true (is_inside bound (Bounded lo hi)) None (Some Exceeds) e

pub passes_inside : (bound : ℤ) (hull : Hull) → hull_fault bound hull ≡ None → is_inside bound hull ≡ true
passes_inside bound Unbounded e = absurd cc
passes_inside bound Empty e = absurd cc
passes_inside bound (Bounded lo hi) e =
    elim (is_inside bound (Bounded lo hi)) as (λ t. cond t None (Some Exceeds) ≡ None → t ≡ true) [
      | true ↦ λ e. refl
      | false ↦ λ e. absurd cc
    ] e

-- the error lies in their hull
pub best_held : (claim : ClaimData) (samples : List Sample) (stretch : Stretch) → IsLawful claim
    → AreSamplesOf claim samples → HoldsError claim samples stretch (best_hull samples claim stretch)
unfolding best_hull
best_held claim samples stretch lawful are =
    let entries = best_entries samples claim stretch in
    let parts = parts_named samples claim stretch entries in
    capture_holds hull_laws claim samples lawful are stretch parts
    (of_samples samples stretch claim.drift_ppb entries parts (entries_accepted samples claim stretch))

-- ---- piece by piece

pub not_less : (a b : ℤ) → b ≤ℤ a → int_lt a b ≡ false
not_less a b le = grind (arith, ints)

pub from_zero_kept : (z : ℤ) → pos 0 ≤ℤ z → pos (unsigned_abs z) ≡ z
from_zero_kept z le = omega (arith, ints)

module _ (samples : List Sample) (claim : ClaimData) where
  -- the checker tests the hull of a piece
  fault_to : (p q end : ℤ) → p ≤ℤ q → q ≤ℤ claim.last → end ≡ q
      → cond (int_lt end p || int_lt claim.last end) (Some Cut)
      (parts_fault claim (parts_after samples (stretch_over p end) claim.drift_ppb []
      (best_entries samples claim (stretch_over p q))))
      ≡ hull_fault claim.bound (hull_over samples claim p q)
  fault_to p q end forward within is =
      rw (is, not_less q p forward, not_less claim.last q within) (entries_fault samples claim (stretch_over p q))

  -- a piece that passes is passed over
  pub one_passed : (k : ℕ) (p q : ℤ) (rest : List PieceData) → IsPiece p q → q ≤ℤ claim.last
      → shows samples claim p q ≡ true
      → verdict_from samples claim k p (piece_over samples claim p q ∷ rest) ≡ verdict_from samples claim (k + 1) q rest
  one_passed k p q rest piece within shown =
      let kept = from_zero_kept q (omega (arith, ints)) in
      ap (λ (f : Option Why). verdict_after f k (verdict_from samples claim (k + 1) (pos (unsigned_abs q)) rest))
      (fault_to p q (pos (unsigned_abs q)) piece.in_order within kept
      ∙ inside_passes claim.bound (hull_over samples claim p q) shown)
      ∙ ap (λ (z : ℤ). verdict_from samples claim (k + 1) z rest) kept

  -- after the last of some pieces, which ends with the span, they are accepted
  pub covered : (k : ℕ) (z : ℤ) → 0 < k → z ≡ claim.last → verdict_from samples claim k z [] ≡ Yes
  covered k z some e =
      cond-true (nat_lt 0 k && int_eq z claim.last) Yes (No k Uncovered) (grind (arith, nat_tests, ints))

module _ (samples : List Sample) (claim : ClaimData) (lawful : IsLawful claim) (step : ℕ) where
  abbrev begin : ℕ → ℤ
  begin = piece_begin_of claim.first claim.last step

  -- pieces that pass are passed over
  passed_over : (n j : ℕ) → ((k : ℕ) → k < j + n → passes samples claim step k ≡ true)
      → verdict_from samples claim j (begin j) (pieces_from samples claim step j n)
      ≡ verdict_from samples claim (j + n) (begin (j + n)) []
  passed_over zero j pass = ap (λ (k : ℕ). verdict_from samples claim k (begin k) []) (sym (add-zero j))
  passed_over (suc n) j pass =
      let same : j + 1 + n ≡ j + suc n = omega arith in
      let others = pieces_from samples claim step (j + 1) n in
      one_passed samples claim j (begin j) (begin (suc j)) others
      (piece_of_claim claim lawful step j) (end_to_last claim.first claim.last lawful.span_forward step j)
      (pass j (omega arith))
      ∙ ap (λ (k : ℕ). verdict_from samples claim (j + 1) (begin k) others) (sym (add-one j))
      ∙ passed_over n (j + 1) (λ k to. pass k (omega arith))
      ∙ ap (λ (k : ℕ). verdict_from samples claim k (begin k) []) same

  begin_last : (n : ℕ) → IsPieceCount claim.first claim.last step n → begin n ≡ claim.last
  begin_last zero is = absurd (omega arith)
  begin_last (suc m) is = let same : suc m - 1 ≡ m = omega arith in rw same at is.ends_with_span

  -- if all pieces pass, they are accepted
  pub all_accepted : (n : ℕ) → IsPieceCount claim.first claim.last step n
      → ((k : ℕ) → k < n → passes samples claim step k ≡ true)
      → verdict_from samples claim 0 claim.first (pieces_from samples claim step 0 n) ≡ Yes
  all_accepted n is pass =
      let all : 0 + n ≡ n = omega arith in
      passed_over n 0 (λ k to. pass k (omega (arith, to)))
      ∙ ap (λ (k : ℕ). verdict_from samples claim k (begin k) []) all
      ∙ covered samples claim n (begin n) is.some (begin_last n is)

pub ruleset accepted_entries = (entries_accepted, entries_fault)
