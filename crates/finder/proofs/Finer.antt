-- Pieces that are cut finer.
use Rattle.finder.proofs.Common.{◌≡◌, ◌≢◌, inl, inr, ℕ, zero, suc, ◌+◌, ◌-◌, ◌*◌, ◌/◌, ◌<◌, ◌≤◌, ℤ, pos, ◌+ℤ◌, ◌≤ℤ◌, ◌<ℤ◌, List, Ok, sym, ◌∙◌, ⊎_elim, arith, mul-le-mul_right, cases_lt, ints, clamps, ticks_per_second, ClaimData, IsLawful, Hull, Unbounded, Empty, Sample, IsPiece, piece_end_of, Stretch, best_entries, best_hull, AreInside, EnvelopeData, IsInside, envelope_of, with_bound, hull_at, IsPieceCount, count_of, piece_begin_of, stretch_at, HoldsWhole, AreSamplesOf, Holds, NoneHolds, mul-pos}
use Rattle.finder.proofs.Bound.{none_inside}
use Rattle.finder.proofs.OtherBounds.{least_is, same_hull}
use Rattle.finder.proofs.Narrow.{shows_as_much}
use Rattle.finder.proofs.SpanPieces.{IsPieceCount-piece_count_of, begin_from_first, piece_of_claim, scaled}
use Rattle.finder.proofs.Verdict.{entries_fault, inside_passes}

-- ---- a stretch inside another

module _ (samples : List Sample) (claim : ClaimData) (lawful : IsLawful claim)
    (are : AreSamplesOf claim samples) (outer inner : Stretch) (n : ℕ)
  where
    -- its hull lies in a bound in which that of the other does, or is empty
    pub inner_inside : IsPiece inner.begin inner.end → HoldsWhole outer inner
        → IsInside n (best_hull samples claim outer) → best_hull samples claim inner ≢ Empty
        → IsInside n (best_hull samples claim inner)
    inner_inside piece whole inside some =
        let wider = with_bound claim n in
        let passes = entries_fault samples wider outer
        ∙ inside_passes wider.bound _ (rw (same_hull samples claim n outer) inside) in
        rw (← same_hull samples claim n inner) (⊎_elim
        (λ empty. absurd (some (sym (same_hull samples claim n inner) ∙ empty)))
        (λ is. is)
        (shows_as_much samples wider outer inner (best_entries samples wider outer) lawful.drift_in_range
        (record { lawful = are.lawful; listed = are.listed }) piece whole passes))

-- ---- a piece inside another

pub quotient : (k d : ℕ) → 0 < d → (k / d * d ≤ k) × (k < (k / d + 1) * d)
quotient k d some = (omega arith, omega arith)

module _ (first last : ℤ) (in_order : first ≤ℤ last) (step times k q : ℕ) (from : q * times ≤ k)
    (to : k < (q + 1) * times) where
  end_inside : piece_end_of first last step k ≤ℤ piece_end_of first last (step * times) q
  end_inside =
      let ticks = scaled step (k + 1) ((q + 1) * times) (omega (arith, to)) in
      let same : (q + 1) * times * step * ticks_per_second ≡ (q + 1) * (step * times) * ticks_per_second =
      omega arith in
      omega (arith, ints, clamps, ticks, same)

  -- the ends of the pieces before them
  earlier_end : (p l : ℕ) → q ≡ p + 1 → k ≡ l + 1
      → piece_end_of first last (step * times) p ≤ℤ piece_end_of first last step l
  earlier_end p l e f =
      let less : (p + 1) * times ≤ l + 1 = rw (← e, ← f) from in
      let ticks = scaled step ((p + 1) * times) (l + 1) less in
      let same : (p + 1) * times * step * ticks_per_second ≡ (p + 1) * (step * times) * ticks_per_second =
      omega arith in
      omega (arith, ints, clamps, ticks, same)

  -- there is such a piece, if the other is one
  count_more : (few many : ℕ) → IsPieceCount first last (step * times) few → IsPieceCount first last step many
      → 0 < times → k < many → q < few
  count_more few many coarse fine some below = ⊎_elim
      (λ less. less)
      (λ past. absurd (
      let one : times ≤ few * times =
      (let h : 1 * times ≤ few * times = mul-le-mul_right times (omega arith) in omega (arith, h)) in
      let up : few * times ≤ q * times = mul-le-mul_right times past in
      let later : few * times ≤ k = omega (arith, up, from) in
      let before : k - 1 + 1 ≡ k = omega (arith, one, later, some) in
      let short = fine.first_to_end (k - 1) (rw before below) in
      let whole = coarse.ends_with_span in
      let last_piece : few - 1 + 1 ≡ few = omega arith in
      let near : (first +ℤ pos (k * step * ticks_per_second)) <ℤ last =
      (let h = rw before at short in omega (arith, ints, clamps)) in
      let far : last ≤ℤ (first +ℤ pos (few * (step * times) * ticks_per_second)) =
      (let h = rw last_piece at whole in omega (arith, ints, clamps)) in
      let ticks = scaled step (few * times) k later in
      let same : few * times * step * ticks_per_second ≡ few * (step * times) * ticks_per_second = omega arith in
      omega (arith, ints, near, far, ticks, same)))
      (cases_lt q few)

begin_inside : (first last : ℤ) → first ≤ℤ last → (step times k q : ℕ) → 0 < times → q * times ≤ k
    → k < (q + 1) * times → piece_begin_of first last (step * times) q ≤ℤ piece_begin_of first last step k
begin_inside first last in_order step times k zero some from to = begin_from_first first last in_order step k
begin_inside first last in_order step times zero (suc p) some from to = absurd (
    let h : suc p * times ≤ 0 = from in
    let one : 1 * times ≤ suc p * times = mul-le-mul_right times (omega arith) in
    omega (arith, h, one, some))
begin_inside first last in_order step times (suc l) (suc p) some from to =
    earlier_end first last in_order step times (suc l) (suc p) from to p l (omega arith) (omega arith)

-- ---- the least bounds

module _ (samples : List Sample) (claim : ClaimData) (lawful : IsLawful claim)
    (are : AreSamplesOf claim samples) (step times : ℕ) (some_step : 0 < step) (some : 0 < times) where
  counted : (s : ℕ) → 0 < s → IsPieceCount claim.first claim.last s (count_of claim s)
  counted s more =
      IsPieceCount-piece_count_of claim.first claim.last s lawful.span_forward more

  -- the hull of each finer piece lies in a bound that holds, or is empty
  piece_inside : (n : ℕ) → AreInside (hull_at samples claim (step * times)) (count_of claim (step * times)) n
      → (k : ℕ) → k < count_of claim step → hull_at samples claim step k ≢ Empty
      → IsInside n (hull_at samples claim step k)
  piece_inside n inside k below some_point =
      let forward = lawful.span_forward in
      let q : ℕ = k / times in
      let parts = quotient k times some in
      let there : q < count_of claim (step * times) =
      count_more claim.first claim.last forward step times k q parts.0 parts.1 (count_of claim (step * times))
      (count_of claim step) (counted (step * times) (mul-pos some_step some)) (counted step some_step)
      some below in
      inner_inside samples claim lawful are (stretch_at claim (step * times) q) (stretch_at claim step k) n
      (piece_of_claim claim lawful step k) (
        begin_inside claim.first claim.last forward step times k q some parts.0 parts.1,
        end_inside claim.first claim.last forward step times k q parts.0 parts.1,
      )
      (inside q there) some_point

  module _ (wide narrow : EnvelopeData) (wide_is : envelope_of samples claim (step * times) ≡ Ok wide)
      (narrow_is : envelope_of samples claim step ≡ Ok narrow) (n j : ℕ) (holds : wide.least ≡ Holds n j) where
    wide_inside : AreInside (hull_at samples claim (step * times)) (count_of claim (step * times)) n
    wide_inside = (least_is samples claim (step * times) wide wide_is (Holds n j) holds).0.all_inside

    pub no_wider : (m k : ℕ) → narrow.least ≡ Holds m k → m ≤ n
    no_wider m k is =
        let least = (least_is samples claim step narrow narrow_is (Holds m k) is).0 in
        least.least n (λ i below. piece_inside n wide_inside i below
        (λ empty. none_inside m (hull_at samples claim step i) (least.all_inside i below) (inr empty)))

    pub is_empty : (k : ℕ) → narrow.least ≡ NoneHolds k → hull_at samples claim step k ≡ Empty
    is_empty k is =
        let first = least_is samples claim step narrow narrow_is (NoneHolds k) is in
        ⊎_elim
        (λ unbounded. absurd (none_inside n (hull_at samples claim step k)
        (piece_inside n wide_inside k first.of_span (λ empty. not_both _ unbounded empty)) (inl unbounded)))
        (λ empty. empty)
        first.without
      where
        not_both : (hull : Hull) → hull ≡ Unbounded → hull ≡ Empty → ⊥
        not_both hull a b = (let both : Unbounded ≡ Empty = sym a ∙ b in absurd cc)
