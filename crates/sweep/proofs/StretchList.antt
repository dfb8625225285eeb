-- The stretches of pieces.
use Rattle.sweep.proofs.Common.{◌≡◌, ℕ, ◌+◌, ◌<◌, ◌≤◌, ◌^◌, ℤ, pos, ◌+ℤ◌, ◌≤ℤ◌, List, [], ◌∷◌, ◌++◌, length, Some, arith, get_or, sym, ◌∙◌, add-one, to_z, of_z, FitsSigned, w128, slice_get, All, ints, to_z-of_z, length-append, All-push, slice_get-get_or, same_Some, IsPiece, IsPieceAt, ArePieces, IsStretchOf, IsLawfulStretch, MiddlesRise, UnsignedStretch, All-slice_get}
use Rattle.sweep.proofs.List.{each_pushed, rises_pushed}

pub piece_at : (first kept_first : ℤ) (ends : List ℤ) (index : ℕ) (begin end : ℤ) → kept_first ≡ first →
    slice_get (kept_first ∷ ends) index ≡ Some begin → index < length ends → end ≡ get_or ends index (pos 0) →
    IsPieceAt first ends index begin end
piece_at first kept_first ends index begin end same begins within is =
    grind (arith, slice_get-get_or ends index (pos 0) within)

-- the piece whose begin and end the code holds
pub piece_here : (first : ℤ) (ends : List ℤ) (n : ℕ) (begin : ℤ) → ArePieces first ends → FitsSigned w128 first →
    FitsSigned w128 (get_or ends n (pos 0)) → slice_get (to_z w128 (of_z w128 first) ∷ ends) n ≡ Some begin →
    n < length ends → IsPiece begin (to_z w128 (of_z w128 (get_or ends n (pos 0))))
piece_here first ends n begin pieces fits end_fits begins within =
    pieces n begin _
    (piece_at first _ ends n begin _ (to_z-of_z w128 first fits) begins within (to_z-of_z w128 _ end_fits))

pub lawful_stretch : (p q : ℤ) (stretch : UnsignedStretch) → IsPiece p q → IsStretchOf p q stretch
    → IsLawfulStretch stretch
lawful_stretch p q stretch piece is = omega (arith, ints)

-- the stretches of the pieces below number n, of which the next begins here
pub record StretchesSoFar (first : ℤ) (ends : List ℤ) (n : ℕ) (begin : ℤ) (stretches : List UnsignedStretch)
    : Type 0 where
  pub begins : slice_get (first ∷ ends) n ≡ Some begin
  pub as_many : length stretches ≡ n
  pub each : (k : ℕ) (p q : ℤ) (stretch : UnsignedStretch) → IsPieceAt first ends k p q →
      slice_get stretches k ≡ Some stretch →
      IsStretchOf p q stretch
  pub lawful : All IsLawfulStretch stretches
  pub behind : (k : ℕ) (stretch : UnsignedStretch) → slice_get stretches k ≡ Some stretch →
      pos stretch.end ≤ℤ (begin +ℤ pos (2 ^ 75))
  pub rise : MiddlesRise stretches

module _ (first : ℤ) (ends : List ℤ) (n : ℕ) (begin : ℤ) (stretches : List UnsignedStretch)
    (so_far : StretchesSoFar first ends n begin stretches) where
  pub StretchesSoFar-more : (end : ℤ) (stretch : UnsignedStretch) → IsPieceAt first ends n begin end →
      IsPiece begin end →
      IsStretchOf begin end stretch → StretchesSoFar first ends (n + 1) end (stretches ++ stretch ∷ [])
  StretchesSoFar-more end stretch at piece is = record {
    begins = rw (add-one n) at.ends_at;
    as_many = omega (arith, length-append stretches (stretch ∷ []), so_far.as_many);
    each = λ k p q s there stands. each_pushed (λ k s. IsPieceAt first ends k p q → IsStretchOf p q s) stretches stretch
        (λ k s old there. so_far.each k p q s there old)
        (λ there.
        let begins = rw so_far.as_many at there.begins in
        let ends_at = rw so_far.as_many at there.ends_at in
        rw (← same_Some begin p (sym at.begins ∙ begins), ← same_Some end q (sym at.ends_at ∙ ends_at)) is)
        k s stands there;
    lawful = All-push IsLawfulStretch stretches stretch so_far.lawful (lawful_stretch begin end stretch piece is);
    behind = each_pushed (λ k s. pos s.end ≤ℤ (end +ℤ pos (2 ^ 75))) stretches stretch
        (λ k s old. omega (arith, ints, so_far.behind k s old, piece.in_order)) (omega (arith, ints, is.end));
    rise = rises_pushed (λ a b. a.begin + a.end ≤ b.begin + b.end) stretches stretch so_far.rise
        (λ k s at_s.
        let own = All-slice_get IsLawfulStretch stretches k s so_far.lawful at_s in
        omega (arith, ints, so_far.behind k s at_s, own.in_order, piece.in_order, is))
        (omega arith);
  }
