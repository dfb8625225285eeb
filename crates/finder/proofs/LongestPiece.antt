-- Where the longest piece ends, by halving; and the longest pieces, one after another.
use Rattle.finder.proofs.Common.{◌≡◌, ℕ, zero, suc, ◌+◌, ◌-◌, ◌<◌, ◌≤◌, ℤ, pos, ◌+ℤ◌, ◌≤ℤ◌, ◌<ℤ◌, unsigned_abs, true, false, true≢false, List, [], ◌∷◌, ◌++◌, length, take, vec_len, length-append, Vec, Global, get_or, refl, sym, ap, ◌∙◌, subst, arith, to_z, of_z, Fits, w64, int_min, ints, clamps, w128, T, take_more, non_neg, yes_non_neg, PieceData, max_pieces, ClaimData, IsLawful, Sample, IsPiece, ArePieces, IsPieceAt, best_entries, AreEnds, AreLongest, IsLongest, end_after, next_tick, piece_over, pieces_over, shows, stretch_over, AreSamplesOf, by_test, w128_keeps, first_kept, last_kept}
use Rattle.finder.proofs.FewestPieces.{InSpan, end_in_span, first_in_span, longest_forward, piece_to, shown_before}
use Rattle.finder.proofs.SpanPieces.{one_piece}
use Rattle.finder.proofs.Verdict.{from_zero_kept}

-- ---- ticks as 128 bits hold them

pub last_is : (claim : ClaimData) → IsLawful claim
    → pos (unsigned_abs (to_z w128 (of_z w128 claim.last))) ≡ claim.last
last_is claim lawful = rw (last_kept claim lawful) (from_zero_kept claim.last (omega (arith, ints)))

-- ---- halving

-- between these two ticks the longest piece ends
pub record IsHalved (samples : List Sample) (claim : ClaimData) (begin next low high : ℕ) : Type 0 where
  pub some : next ≤ low
  pub in_order : low ≤ high
  pub within : pos high ≤ℤ claim.last
  pub shown : shows samples claim (pos begin) (pos low) ≡ true
  pub no_longer : (r : ℤ) → pos high <ℤ r → r ≤ℤ claim.last → shows samples claim (pos begin) r ≡ false

pub next_not_before : (begin next : ℕ) (last : ℤ) → pos begin ≤ℤ last → pos next ≡ int_min (pos begin +ℤ pos 1) last
    → begin ≤ next
next_not_before begin next last within is = omega (arith, ints, clamps)

module _ (samples : List Sample) (claim : ClaimData) (lawful : IsLawful claim)
    (are : AreSamplesOf claim samples) (begin next : ℕ) (from : pos begin ≤ℤ claim.last)
    (next_is : pos next ≡ next_tick samples claim (pos begin)) where
  in_span : InSpan claim (pos begin)
  in_span = record { from_zero = omega (arith, ints); to_last = from }

  pub halved_first : (high : ℕ) → pos high ≡ claim.last → shows samples claim (pos begin) (pos next) ≡ true
      → IsHalved samples claim begin next next high
  halved_first high is shown = grind (arith, ints, clamps)

  pub halved_up : (low high middle : ℕ) → IsHalved samples claim begin next low high → low ≤ middle → middle ≤ high
      → shows samples claim (pos begin) (pos middle) ≡ true → IsHalved samples claim begin next middle high
  halved_up low high middle is from_low to_high shown = grind arith

  pub halved_down : (low high middle : ℕ) → IsHalved samples claim begin next low high → low < middle → middle ≤ high
      → shows samples claim (pos begin) (pos next) ≡ true
      → shows samples claim (pos begin) (pos middle) ≡ false → IsHalved samples claim begin next low (middle - 1)
  halved_down low high middle is from_low to_high least not_shown =
      let some = is.some in
      let least_shown = rw next_is at least in
      let up : next ≤ middle = omega arith in
      let after : next_tick samples claim (pos begin) ≤ℤ pos middle = rw (← next_is) (omega (arith, ints)) in
      record {
        some = some;
        in_order = omega arith;
        within = omega (arith, ints);
        shown = is.shown;
        no_longer = λ r beyond within. by_test (shows samples claim (pos begin) r)
            (λ shown. absurd (true≢false (sym (shown_before samples claim lawful are (pos begin) (pos middle) r
            in_span after (omega (arith, ints)) within least_shown shown) ∙ not_shown)))
            (λ fails. fails);
      }

  pub halved_end : (low high : ℕ) → IsHalved samples claim begin next low high → high ≤ low
      → shows samples claim (pos begin) (pos next) ≡ true
      → IsLongest samples claim (pos begin) (pos low)
  halved_end low high is met least =
      let up : pos next ≤ℤ pos low = omega (arith, ints) in
      record {
        some_tick = subst (λ (z : ℤ). z ≤ℤ pos low) next_is up;
        in_span = omega (arith, ints);
        tick_shown = subst (λ (z : ℤ). shows samples claim (pos begin) z ≡ true) next_is least;
        shown = is.shown;
        no_longer = λ r beyond within. is.no_longer r (omega (arith, ints)) within;
      }

-- ---- one piece after another

module _ (samples : List Sample) (claim : ClaimData) where
  pub longest_more : (p : ℤ) (ends : List ℤ) (q : ℤ) → AreLongest samples claim p ends
      → IsLongest samples claim (end_after p ends) q → q <ℤ claim.last → AreLongest samples claim p (ends ++ q ∷ [])
  longest_more p [] q are is before = (is, before, tt)
  longest_more p (e ∷ ends) q are is before = (are.0, are.1, longest_more e ends q are.2 is before)

  pub end_after_more : (p : ℤ) (ends : List ℤ) (q : ℤ) → end_after p (ends ++ q ∷ []) ≡ q
  end_after_more p [] q = refl
  end_after_more p (e ∷ ends) q = end_after_more e ends q

  pub pieces_more : (p : ℤ) (ends : List ℤ) (q : ℤ) → pieces_over samples claim p (ends ++ q ∷ [])
      ≡ pieces_over samples claim p ends ++ piece_over samples claim (end_after p ends) q ∷ []
  pieces_more p [] q = refl
  pieces_more p (e ∷ ends) q =
      ap (λ (ps : List PieceData). piece_over samples claim p e ∷ ps) (pieces_more e ends q)

  module _ (ends items : List ℤ) (b q : ℕ) (z : ℤ) (are : AreLongest samples claim claim.first ends)
      (begins : pos b ≡ end_after claim.first ends) (long : IsLongest samples claim (pos b) (pos q)) (same : z ≡ pos q)
      (pushed : items ≡ ends ++ z ∷ []) where
    pub reach_more : pos q <ℤ claim.last → AreLongest samples claim claim.first items
    reach_more before =
        rw (pushed, same) (longest_more claim.first ends (pos q) are (rw begins at long) before)

    pub reach_begins : pos q ≡ end_after claim.first items
    reach_begins = sym (rw (pushed, same) (end_after_more claim.first ends (pos q)))

  -- one more piece of a certificate
  pub taken_more : (ends : List ℤ) (k : ℕ) (old : List PieceData) (entries : List (ℕ × ℕ)) (upto : ℕ)
      → k < length ends → old ≡ pieces_over samples claim claim.first (take k ends)
      → entries
      ≡ best_entries samples claim (stretch_over (end_after claim.first (take k ends)) (get_or ends k (pos 0)))
      → upto ≡ unsigned_abs (get_or ends k (pos 0))
      → old ++ record { entries = entries; upto = upto } ∷ []
      ≡ pieces_over samples claim claim.first (take (k + 1) ends)
  taken_more ends k old entries upto below so_far a b =
      rw (so_far, a, b) (sym (pieces_more claim.first (take k ends) (get_or ends k (pos 0)))
      ∙ ap (pieces_over samples claim claim.first) (sym (take_more ends k (pos 0) below)))

-- an end that is a Unix tick, as it is cast
pub end_kept : (p q : ℤ) → IsPiece p q → to_z w128 (of_z w128 q) ≡ q
end_kept p q is = w128_keeps q (omega (arith, ints))

pub end_fits : (p q : ℤ) → IsPiece p q
    → T (non_neg (to_z w128 (of_z w128 q))) × Fits w64 (unsigned_abs (to_z w128 (of_z w128 q)))
end_fits p q is =
    let from : pos 0 ≤ℤ q = omega (arith, ints) in
    rw (end_kept p q is) (yes_non_neg from, record { fits = omega (arith, ints) })

pub first_is : (claim : ClaimData) → IsLawful claim
    → pos (unsigned_abs (to_z w128 (of_z w128 claim.first))) ≡ claim.first
first_is claim lawful = rw (first_kept claim lawful) (from_zero_kept claim.first lawful.span_begins)

pub piece_at_take : (p : ℤ) (ends : List ℤ) (k : ℕ) (d : ℤ) → k < length ends
    → IsPieceAt p ends k (end_after p (take k ends)) (get_or ends k d)
piece_at_take p [] k d below = absurd (omega arith)
piece_at_take p (q ∷ ends) zero d below = record { begins = refl; ends_at = refl }
piece_at_take p (q ∷ ends) (suc k) d below =
    let rest = piece_at_take q ends k d (omega arith) in
    record { begins = rest.begins; ends_at = rest.ends_at }

module _ (samples : List Sample) (claim : ClaimData) (lawful : IsLawful claim)
    (are : AreSamplesOf claim samples) where
  piece_of_longest : (p q : ℤ) → InSpan claim p → IsLongest samples claim p q → IsPiece p q
  piece_of_longest p q is long =
      piece_to samples claim lawful are p q is (longest_forward samples claim lawful are p q is long)
      long.in_span

  are_pieces : (p : ℤ) (earlier : List ℤ) → InSpan claim p → AreLongest samples claim p earlier
      → IsLongest samples claim (end_after p earlier) claim.last → ArePieces p (earlier ++ claim.last ∷ [])
  are_pieces p [] is longest last zero a b at =
      one_piece p claim.last a b (piece_of_longest p claim.last is last) at.begins at.ends_at
  are_pieces p [] is longest last (suc k) a b at = absurd cc
  are_pieces p (q ∷ earlier) is longest last zero a b at =
      one_piece p q a b (piece_of_longest p q is longest.0) at.begins at.ends_at
  are_pieces p (q ∷ earlier) is longest last (suc k) a b at =
      are_pieces q earlier (end_in_span samples claim lawful are p q is longest.0) longest.2 last k a b
      (record { begins = at.begins; ends_at = at.ends_at })

  pub pieces_to : (ends : List ℤ) → AreEnds samples claim ends → ArePieces claim.first ends
  pieces_to ends is =
      rw is.are (are_pieces claim.first is.earlier (first_in_span samples claim lawful are) is.longest is.last)

-- ---- how many pieces there are, by the length of their list

-- the ends so far
abbrev Ends : Type 0
Ends = Vec ℤ Global

module _ (ends : Ends) (count : ℕ) (is : count ≡ vec_len ends) where
  pub one_longer : (items : List ℤ) (z : ℤ) → count < max_pieces → items ≡ ends.items ++ z ∷ []
      → length items ≤ max_pieces
  one_longer items z below pushed =
      omega (arith, ends.ok.0, ap length pushed, length-append ends.items (z ∷ []))

  pub all_taken : max_pieces ≤ count → length ends.items ≤ max_pieces → length ends.items ≡ max_pieces
  all_taken past few = omega (arith, ends.ok.0)

-- a tick of the span that isn't the last comes before it
pub before_last : (q last : ℕ) (end : ℤ) → pos q ≤ℤ end → pos last ≡ end → (q ≡ last → ⊥) → pos q <ℤ end
before_last q last end within is other = omega (arith, ints)

pub ruleset halving = (halved_first, halved_up, halved_end, next_not_before, last_is)
