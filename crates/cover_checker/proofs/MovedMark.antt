-- A mark that is moved for a stretch, as the code computes it.
use Rattle.std.proofs.Common.{FitsSigned, ap₂, of_z, to_z, ◌<◌, ◌^◌}
use Rattle.std.proofs.lemmas.Int.{fits_signed_from_abs}
use Rattle.lemma_base.proofs.Int.{w128_keeps}
use mir.Syntax.{w128}
use Rattle.error_marks.specs.Range.{IsWithinRange}
use Rattle.span_cover.specs.Piece.{IsPiece}
use Rattle.cover_checker.proofs.Common.{◌≡◌, ℕ, ◌≤◌, ℤ, pos, ◌+ℤ◌, ◌-ℤ◌, ◌≤ℤ◌, unsigned_abs, refl, sym, subst, ap, ◌∙◌, arith, ints, clamps, int_max, Mark, Part, Stretch, ahead, fall, high_over, low_over, rise}
use Rattle.cover_checker.specs.Interval.{missed_by}

-- a number as 128 bits keep it
abbrev kept : ℤ → ℤ
kept z = to_z w128 (of_z w128 z)

-- a distance and a change that the code computes
pub record IsComputed (from to : ℤ) (distance change : ℤ) (most : ℤ → ℤ) : Type 0 where
  pub distance_is : distance ≡ ahead (kept from) (kept to)
  pub change_is : change ≡ most (kept distance)
  pub from_zero : pos 0 ≤ℤ change
  pub at_most : change ≤ℤ kept distance

module _ (from to distance change : ℤ) (most : ℤ → ℤ) (here : unsigned_abs from ≤ 2 ^ 73)
    (there : unsigned_abs to ≤ 2 ^ 73) (c : IsComputed from to distance change most) where
  distance_exact : distance ≡ ahead from to
  distance_exact = c.distance_is ∙ ap₂ ahead (w128_keeps from (omega arith)) (w128_keeps to (omega arith))

  distance_kept : kept distance ≡ distance
  distance_kept = let is = distance_exact in w128_keeps distance (omega (arith, ints, clamps))

  change_small : unsigned_abs change ≤ 2 ^ 75
  change_small = let is = distance_exact in let at = distance_kept in let most' = c.at_most in let some = c.from_zero in
      omega (arith, ints, clamps)

  change_exact : kept change ≡ most (ahead from to)
  change_exact =
      let small = change_small in
      w128_keeps change (omega arith) ∙ c.change_is ∙ ap most (distance_kept ∙ distance_exact)

module _ (error one other most : ℤ) (range : unsigned_abs error ≤ 2 ^ 73) (one_small : unsigned_abs one ≤ 2 ^ 75)
    (other_small : unsigned_abs other ≤ 2 ^ 75) (is : most ≡ int_max (kept one) (kept other)) where
  most_exact : most ≡ int_max one other
  most_exact = is ∙ ap₂ int_max (w128_keeps one (omega arith)) (w128_keeps other (omega arith))

  most_small : unsigned_abs most ≤ 2 ^ 75
  most_small = let e = most_exact in omega (arith, ints, clamps)

  most_kept : kept most ≡ most
  most_kept = let small = most_small in w128_keeps most (omega arith)

  down_is : kept error -ℤ kept most ≡ error -ℤ most
  down_is = ap₂ ◌-ℤ◌ (w128_keeps error (omega arith)) most_kept

  up_is : kept error +ℤ kept most ≡ error +ℤ most
  up_is = ap₂ ◌+ℤ◌ (w128_keeps error (omega arith)) most_kept

  pub down_fits : FitsSigned w128 (kept error -ℤ kept most)
  down_fits = let small = most_small in
      subst (FitsSigned w128) (sym down_is) (fits_signed_from_abs w128 (error -ℤ most) (omega (arith, ints)))

  pub up_fits : FitsSigned w128 (kept error +ℤ kept most)
  up_fits = let small = most_small in
      subst (FitsSigned w128) (sym up_is) (fits_signed_from_abs w128 (error +ℤ most) (omega (arith, ints)))

  pub down_exact : kept (kept error -ℤ kept most) ≡ error -ℤ int_max (kept one) (kept other)
  down_exact = let small = most_small in
      ap kept down_is ∙ w128_keeps (error -ℤ most) (omega (arith, ints)) ∙ ap (λ (m : ℤ). error -ℤ m) is

  pub up_exact : kept (kept error +ℤ kept most) ≡ error +ℤ int_max (kept one) (kept other)
  up_exact = let small = most_small in
      ap kept up_is ∙ w128_keeps (error +ℤ most) (omega (arith, ints)) ∙ ap (λ (m : ℤ). error +ℤ m) is

-- ---- a mark over a stretch

module _ (ppb : ℕ) (stretch : Stretch) (mark : Mark) (d f e r m : ℤ) (piece : IsPiece stretch.begin stretch.end)
    (range : IsWithinRange mark) where
  place_small : unsigned_abs mark.place ≤ 2 ^ 73
  place_small = range.place

  begin_small : unsigned_abs stretch.begin ≤ 2 ^ 73
  begin_small = omega (arith, ints)

  end_small : unsigned_abs stretch.end ≤ 2 ^ 73
  end_small = omega (arith, ints)

  module _ (falls : IsComputed mark.place stretch.end d f (fall ppb))
      (rises : IsComputed stretch.begin mark.place e r (rise ppb)) (is : m ≡ int_max (kept f) (kept r)) where
    f_small : unsigned_abs f ≤ 2 ^ 75
    f_small = change_small mark.place stretch.end d f (fall ppb) place_small end_small falls

    r_small : unsigned_abs r ≤ 2 ^ 75
    r_small = change_small stretch.begin mark.place e r (rise ppb) begin_small place_small rises

    pub low_fits : FitsSigned w128 (kept mark.error -ℤ kept m)
    low_fits = down_fits mark.error f r m range.error f_small r_small is

    pub low_exact : kept (kept mark.error -ℤ kept m) ≡ low_over ppb stretch mark
    low_exact =
        down_exact mark.error f r m range.error f_small r_small is
        ∙ ap₂ (λ a b. mark.error -ℤ int_max a b)
        (change_exact mark.place stretch.end d f (fall ppb) place_small end_small falls)
        (change_exact stretch.begin mark.place e r (rise ppb) begin_small place_small rises)

  module _ (rises : IsComputed mark.place stretch.end e r (rise ppb))
      (falls : IsComputed stretch.begin mark.place d f (fall ppb)) (is : m ≡ int_max (kept r) (kept f)) where
    r_small' : unsigned_abs r ≤ 2 ^ 75
    r_small' = change_small mark.place stretch.end e r (rise ppb) place_small end_small rises

    f_small' : unsigned_abs f ≤ 2 ^ 75
    f_small' = change_small stretch.begin mark.place d f (fall ppb) begin_small place_small falls

    pub high_fits : FitsSigned w128 (kept mark.error +ℤ kept m)
    high_fits = up_fits mark.error r f m range.error r_small' f_small' is

    pub high_exact : kept (kept mark.error +ℤ kept m) ≡ high_over ppb stretch mark
    high_exact =
        up_exact mark.error r f m range.error r_small' f_small' is
        ∙ ap₂ (λ a b. mark.error +ℤ int_max a b)
        (change_exact mark.place stretch.end e r (rise ppb) place_small end_small rises)
        (change_exact stretch.begin mark.place d f (fall ppb) begin_small place_small falls)

-- ---- two marks

module _ (ppb : ℕ) (low high : Mark) (d f e r m : ℤ) (low_range : IsWithinRange low) (high_range : IsWithinRange high)
    (falls : IsComputed low.place high.place d f (fall ppb)) (rises : IsComputed high.place low.place e r (rise ppb))
    (is : m ≡ int_max (kept f) (kept r)) where
  fall_small : unsigned_abs f ≤ 2 ^ 75
  fall_small = change_small low.place high.place d f (fall ppb) low_range.place high_range.place falls

  rise_small : unsigned_abs r ≤ 2 ^ 75
  rise_small = change_small high.place low.place e r (rise ppb) high_range.place low_range.place rises

  pub least_fits : FitsSigned w128 (kept low.error -ℤ kept m)
  least_fits = down_fits low.error f r m low_range.error fall_small rise_small is

  size : unsigned_abs m ≤ 2 ^ 75
  size = most_small low.error f r m low_range.error fall_small rise_small is

  least : kept (kept low.error -ℤ kept m) ≡ low.error -ℤ m
  least = let small = size in let range = low_range.error in
      ap kept (down_is low.error f r m low_range.error fall_small rise_small is)
      ∙ w128_keeps (low.error -ℤ m) (omega (arith, ints))

  missed : kept (kept low.error -ℤ kept m) -ℤ kept high.error ≡ (low.error -ℤ m) -ℤ high.error
  missed = let range = high_range.error in ap₂ ◌-ℤ◌ least (w128_keeps high.error (omega arith))

  missed_small : unsigned_abs ((low.error -ℤ m) -ℤ high.error) < 2 ^ 127
  missed_small = let small = size in let range = low_range.error in let other = high_range.error in
      omega (arith, ints)

  pub missed_fits : FitsSigned w128 (kept (kept low.error -ℤ kept m) -ℤ kept high.error)
  missed_fits = subst (FitsSigned w128) (sym missed)
      (fits_signed_from_abs w128 ((low.error -ℤ m) -ℤ high.error) missed_small)

  pub missed_exact : kept (kept (kept low.error -ℤ kept m) -ℤ kept high.error) ≡ missed_by ppb low high
  missed_exact =
      ap kept missed
      ∙ w128_keeps ((low.error -ℤ m) -ℤ high.error) missed_small
      ∙ ap (λ n. (low.error -ℤ n) -ℤ high.error) is
      ∙ ap₂ (λ a b. (low.error -ℤ int_max a b) -ℤ high.error)
      (change_exact low.place high.place d f (fall ppb) low_range.place high_range.place falls)
      (change_exact high.place low.place e r (rise ppb) high_range.place low_range.place rises)

-- parts whose ends are equal
pub same_part : (server : ℕ) {lo lo' hi hi' : ℤ} → lo ≡ lo' → hi ≡ hi' →
    ◌≡◌ {A = Part} record { server = server; interval = record { lo = lo; hi = hi } }
    record { server = server; interval = record { lo = lo'; hi = hi' } }
same_part server p e = rw (p, e) refl
