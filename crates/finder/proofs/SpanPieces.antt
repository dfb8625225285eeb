-- The pieces of a span.
use Rattle.finder.proofs.Common.{◌≡◌, ℕ, zero, suc, ◌+◌, ◌-◌, ◌*◌, ◌/◌, ◌%◌, ◌<◌, ◌≤◌, min, max, ◌^◌, ℤ, pos, ◌+ℤ◌, ◌-ℤ◌, ◌≤ℤ◌, ◌<ℤ◌, unsigned_abs, List, [], ◌∷◌, ◌++◌, Some, subst, sym, ap, ◌∙◌, ⊎_elim, arith, to_z, of_z, Fits, w32, w64, w128, mul-le-mul_right, cases_lt, div_ceil_times, ints, clamps, map-range_with_len_more, div-mul-add, div_ceil, non_neg, yes_non_neg, T, ClaimData, IsLawful, IsCeiling, ceiling_of, ticks_per_second, IsPiece, piece_end_of, Stretch, IsPieceCount, piece_count_of, piece_begin_of, ends_of, stretch_at, first_kept, last_kept}
use Rattle.era_unfold.proofs.Rounding.{IsCeiling-ceiling_of}
use Rattle.finder.proofs.Claim.{length_fits}

-- a quotient that is rounded up by its remainder
pub div_ceil-ceiling_of : (n d : ℕ) → 0 < d → div_ceil n d ≡ ceiling_of n d
unfolding ceiling_of
div_ceil-ceiling_of n d h =
    let bounds = div_ceil_times n d h in
    let q : ℕ = n / d + min 1 (n % d) in
    let rest : n + (d - 1) - q * d < d = omega (arith, bounds.0, bounds.1) in
    let parts : n + (d - 1) ≡ q * d + (n + (d - 1) - q * d) = omega (arith, bounds.0, bounds.1) in
    sym (ap (λ x. x / d) parts ∙ div-mul-add q d (n + (d - 1) - q * d) rest)

-- ---- the ends

-- no fewer steps are no fewer ticks
pub scaled : (step a b : ℕ) → a ≤ b → (a * step * ticks_per_second) ≤ (b * step * ticks_per_second)
scaled step a b le = mul-le-mul_right ticks_per_second (mul-le-mul_right step le)

module _ (first last : ℤ) (in_order : first ≤ℤ last) (step : ℕ) where
  pub end_from_first : (k : ℕ) → first ≤ℤ piece_end_of first last step k
  end_from_first k = omega (arith, ints, clamps)

  pub end_to_last : (k : ℕ) → piece_end_of first last step k ≤ℤ last
  end_to_last k = omega (arith, ints, clamps)

  pub end_no_earlier : (j k : ℕ) → j ≤ k → piece_end_of first last step j ≤ℤ piece_end_of first last step k
  end_no_earlier j k le = let more = scaled step (j + 1) (k + 1) (omega arith) in omega (arith, ints, clamps)

  pub begin_from_first : (k : ℕ) → first ≤ℤ piece_begin_of first last step k
  begin_from_first zero = omega (arith, ints)
  begin_from_first (suc k) = end_from_first k

  pub begin_before_end : (k : ℕ) → piece_begin_of first last step k ≤ℤ piece_end_of first last step k
  begin_before_end zero = end_from_first 0
  begin_before_end (suc k) = end_no_earlier k (suc k) (omega arith)

  pub each_is_piece : pos 0 ≤ℤ first → last <ℤ pos (2 ^ 64) → (k : ℕ)
      → IsPiece (piece_begin_of first last step k) (piece_end_of first last step k)
  each_is_piece from_zero in_range k =
      omega (arith, ints, begin_from_first k, end_to_last k, begin_before_end k)

-- the ends of a piece, as others name them
pub one_piece : (a b p q : ℤ) → IsPiece a b → Some a ≡ Some p → Some b ≡ Some q → IsPiece p q
one_piece a b p q is e f =
    let begins : a ≡ p = cc in
    let ends : b ≡ q = cc in
    subst (λ (x : ℤ). IsPiece x q) begins (subst (λ (y : ℤ). IsPiece a y) ends is)

-- ---- the count

-- the last end, if this many steps are no shorter than the span
reaches : (first last : ℤ) (step n : ℕ) → 0 < n → last ≤ℤ (first +ℤ pos (n * step * ticks_per_second))
    → piece_end_of first last step (n - 1) ≡ last
reaches first last step n some far =
    let same : n - 1 + 1 ≡ n = omega arith in
    rw same (omega (arith, ints, clamps))

module _ (first last : ℤ) (step c : ℕ) (in_order : first ≤ℤ last)
    (is : IsCeiling (unsigned_abs (last -ℤ first)) (step * ticks_per_second) c) where
  far_enough : last ≤ℤ (first +ℤ pos (max 1 c * step * ticks_per_second))
  far_enough =
      let more : c * (step * ticks_per_second) ≤ max 1 c * (step * ticks_per_second) =
      mul-le-mul_right (step * ticks_per_second) (omega arith) in
      omega (arith, ints)

  not_yet : (k : ℕ) → k + 1 < max 1 c → (first +ℤ pos ((k + 1) * step * ticks_per_second)) <ℤ last
  not_yet k before = ⊎_elim
      (λ less. omega (arith, ints))
      (λ no_less. absurd (let least = is.least (k + 1) (omega arith) in omega arith))
      (cases_lt ((k + 1) * (step * ticks_per_second)) (unsigned_abs (last -ℤ first)))

  count_is : IsPieceCount first last step (max 1 c)
  count_is = record {
    some = omega arith;
    ends_with_span = reaches first last step (max 1 c) (omega arith) far_enough;
    first_to_end = λ k before. omega (arith, ints, clamps, not_yet k before);
  }

pub IsPieceCount-piece_count_of : (first last : ℤ) (step : ℕ) → first ≤ℤ last → 0 < step
    → IsPieceCount first last step (piece_count_of first last step)
unfolding piece_count_of
IsPieceCount-piece_count_of first last step in_order some =
    count_is first last step _ in_order (IsCeiling-ceiling_of _ (step * ticks_per_second) (omega arith))

-- the numbers from which the code computes the count
module _ (step from : ℕ) (same : from ≡ step) where
  pub ticks_fit : Fits w32 step → Fits w128 (from * ticks_per_second)
  ticks_fit fits = record { fits = omega arith }

  pub some_ticks : 0 < step → 0 < from * ticks_per_second
  some_ticks some = omega arith

at_most_whole : (n d q : ℕ) → 1 ≤ d → q * d < n + d → q ≤ n
at_most_whole n d zero some below = omega arith
at_most_whole n d (suc q) some below =
    let more : 1 * q ≤ d * q = mul-le-mul_right q some in
    omega arith

pub count_fits : (n d q count : ℕ) → 0 < d → n < 2 ^ 64 → q ≡ div_ceil n d → count ≡ max q 1 → Fits w64 count
count_fits n d q count some below e f =
    omega (arith, div_ceil_times n d some, at_most_whole n d (div_ceil n d) (omega arith) (div_ceil_times n d some).1)

-- the count that the code computes
pub count_from : (first last : ℤ) (step from length q count : ℕ) → 0 < step → from ≡ step
    → length ≡ unsigned_abs (last -ℤ first) → q ≡ div_ceil length (from * ticks_per_second) → count ≡ max q 1
    → count ≡ piece_count_of first last step
unfolding piece_count_of
count_from first last step from length q count some a b e f =
    let whole : q ≡ ceiling_of (unsigned_abs (last -ℤ first)) (step * ticks_per_second) =
    rw (← a, ← b) (e ∙ div_ceil-ceiling_of length (from * ticks_per_second) (omega arith)) in
    let turned : max q 1 ≡ max 1 q = omega arith in
    f ∙ turned ∙ ap (λ (n : ℕ). max 1 n) whole

-- ---- a list of the ends

module _ (first last : ℤ) (step n : ℕ) where
  pub ends_more : (ends items : List ℤ) (end kept : ℤ) → ends ≡ ends_of first last step n
      → end ≡ piece_end_of first last step n → kept ≡ end → items ≡ ends ++ kept ∷ []
      → items ≡ ends_of first last step (n + 1)
  ends_more ends items end kept a b same e =
      rw (e, same, b, a) (sym (map-range_with_len_more (piece_end_of first last step) 0 n n (omega arith)))

-- ---- the pieces of a claim's span

module _ (claim : ClaimData) (lawful : IsLawful claim) (step k : ℕ) where
  pub piece_of_claim : IsPiece (piece_begin_of claim.first claim.last step k)
      (piece_end_of claim.first claim.last step k)
  piece_of_claim = each_is_piece claim.first claim.last lawful.span_forward step lawful.span_begins lawful.span_ends k

  -- 128 bits keep its end
  pub end_kept : (end : ℤ) → end ≡ piece_end_of claim.first claim.last step k
      → to_z w128 (of_z w128 end) ≡ piece_end_of claim.first claim.last step k
  end_kept end is =
      omega (
        arith,
        ints,
        lawful.span_forward,
        end_from_first claim.first claim.last (lawful.span_forward) step k,
        end_to_last claim.first claim.last (lawful.span_forward) step k,
      )

  -- also as the code computes it
  pub end_computed : (end : ℤ)
      → end ≡ piece_end_of (to_z w128 (of_z w128 claim.first)) (to_z w128 (of_z w128 claim.last)) step k
      → to_z w128 (of_z w128 end) ≡ piece_end_of claim.first claim.last step k
  end_computed end is = end_kept end (rw (first_kept claim lawful, last_kept claim lawful) at is)

  -- it is a number of Unix ticks
  pub end_fits : (end : ℤ) → end ≡ piece_end_of claim.first claim.last step k
      → T (non_neg end) × Fits w64 (unsigned_abs end)
  end_fits end is =
      let piece = piece_of_claim in
      let in_range = piece.in_range in
      let from : pos 0 ≤ℤ end = rw is (omega (arith, ints)) in
      let to : end <ℤ pos (2 ^ 64) = rw is in_range in
      (yes_non_neg from, record { fits = omega (arith, ints) })

-- the readings that the code computes
pub stretch_is : (claim : ClaimData) (step k : ℕ) (begin end : ℤ) → begin ≡ piece_begin_of claim.first claim.last step k
    → end ≡ piece_end_of claim.first claim.last step k
    → ◌≡◌ {A = Stretch} (record { begin = begin; end = end }) (stretch_at claim step k)
stretch_is claim step k begin end a b =
    let make : ℤ → ℤ → Stretch = λ x y. record { begin = x; end = y } in
    ap (λ (x : ℤ). make x end) a ∙ ap (λ (y : ℤ). make (piece_begin_of claim.first claim.last step k) y) b

pub ruleset counting = (length_fits, ticks_fit, some_ticks)

pub ruleset piece_counts = (IsPieceCount-piece_count_of)
