-- Where a mark is moved to over a stretch, by one division.
use Rattle.std.proofs.Common.{◌≡◌, ℕ, suc, ◌+◌, ◌-◌, ◌*◌, ◌/◌, ◌<◌, ◌≤◌, ℤ, pos, negsuc, ◌+ℤ◌, ◌-ℤ◌, ◌*ℤ◌, ◌≤ℤ◌, ◌<ℤ◌, unsigned_abs, arith, sym, ap, ◌∙◌, ⊎_elim}
use Rattle.std.proofs.lemmas.Int.{ints, clamps, by_lt_z}
use Rattle.std.proofs.Math.Nat.{mul-le-mul_left, mul-le-mul_right}
use Rattle.std.specs.Int.{int_div_euclid, int_max}
use Rattle.std.proofs.Common.{neg_ℤ, ap₂}
use Rattle.era_unfold.specs.Ratio.{IsCeiling}
unfoldable use Rattle.era_unfold.specs.Ratio.{ceiling_of}
use Rattle.intersection.specs.Fineness.{times_le}
use Rattle.cover_finder.specs.Common.{Mark, Stretch, ahead}
use Rattle.cover_finder.specs.Ridge.{height_of, level_at}
use Rattle.cover_finder.specs.Side.{change, end_over, middle_of}
use Rattle.lemma_base.proofs.Int.{≤ℤ_antisymm}
use Rattle.std.proofs.lemmas.Bool.{cases_lt}
use Rattle.std.proofs.Math.IntN.{*ℤ_comm}
use borrow.Author.Differences.{up, down}

-- ---- floors

floor_not_above : (h : ℤ) (r : ℕ) → 0 < r → (int_div_euclid h (pos r) *ℤ pos r) ≤ℤ h
floor_not_above (pos a) r some = omega (arith, ints)
floor_not_above (negsuc a) r some = omega (arith, ints)

floor_next : (h : ℤ) (r : ℕ) → 0 < r → h <ℤ ((int_div_euclid h (pos r) *ℤ pos r) +ℤ pos r)
floor_next (pos a) r some = omega (arith, ints)
floor_next (negsuc a) r some = omega (arith, ints)

times_next : (a b : ℤ) (r : ℕ) → (b +ℤ pos 1) ≤ℤ a → ((b *ℤ pos r) +ℤ pos r) ≤ℤ (a *ℤ pos r)
times_next (pos x) (pos y) r h =
    let le : y + 1 ≤ x = omega (arith, ints) in omega (arith, ints, mul-le-mul_right r le)
times_next (pos x) (negsuc y) r h = omega (arith, ints)
times_next (negsuc x) (pos y) r h = absurd (omega (arith, ints))
times_next (negsuc x) (negsuc y) r h =
    let le : suc x + 1 ≤ suc y = omega (arith, ints) in
    omega (arith, ints, mul-le-mul_right r le)

-- of two numbers, if r times the first isn't above r times what comes behind the second
below_next : (a b : ℤ) (r : ℕ) → (a *ℤ pos r) <ℤ ((b *ℤ pos r) +ℤ pos r) → a ≤ℤ b
below_next a b r h =
    by_lt_z b a
    (λ less. let next = times_next a b r (omega (arith, ints)) in absurd (omega (arith, ints)))
    (λ no_more. no_more)

pub floor_grows : (h k : ℤ) (r : ℕ) → 0 < r → h ≤ℤ k → int_div_euclid h (pos r) ≤ℤ int_div_euclid k (pos r)
floor_grows h k r some le =
    below_next (int_div_euclid h (pos r)) (int_div_euclid k (pos r)) r
    (let low = floor_not_above h r some in let high = floor_next k r some in omega (arith, ints))

times-parts : (n : ℕ) (a : ℤ) → (pos n *ℤ a) ≡ pos (n * up a) -ℤ pos (n * down a)
times-parts n (pos x) = omega (arith, ints)
times-parts n (negsuc x) = omega (arith, ints)

times-sub : (n : ℕ) (a b : ℤ) → (pos n *ℤ (a -ℤ b)) ≡ (pos n *ℤ a) -ℤ (pos n *ℤ b)
times-sub n a b =
    let parts : up (a -ℤ b) + down a + up b ≡ down (a -ℤ b) + up a + down b = omega (arith, ints) in
    let scaled : n * (up (a -ℤ b) + down a + up b) ≡ n * (down (a -ℤ b) + up a + down b) =
    ap (λ (x : ℕ). n * x) parts in
    rw (times-parts n (a -ℤ b), times-parts n a, times-parts n b) (omega (arith, ints))

taken : (e : ℤ) (c r : ℕ) → ((e -ℤ pos c) *ℤ pos r) ≡ (pos r *ℤ e) -ℤ pos (c * r)
taken e c r =
    *ℤ_comm (e -ℤ pos c) (pos r) ∙ times-sub r e (pos c)
    ∙ ap (λ z. (pos r *ℤ e) -ℤ z) (*ℤ_comm (pos r) (pos c))

-- a number less what is rounded up
pub floor_is : (e : ℤ) (n r c : ℕ) → 0 < r → n ≤ c * r → c * r < n + r →
    int_div_euclid ((pos r *ℤ e) -ℤ pos n) (pos r) ≡ e -ℤ pos c
floor_is e n r c some above next =
    let q = int_div_euclid ((pos r *ℤ e) -ℤ pos n) (pos r) in
    let low = floor_not_above ((pos r *ℤ e) -ℤ pos n) r some in
    let high = floor_next ((pos r *ℤ e) -ℤ pos n) r some in
    let same = taken e c r in
    let turn = *ℤ_comm (pos r) e in
    ≤ℤ_antisymm q (e -ℤ pos c)
    (below_next q (e -ℤ pos c) r (omega (arith, ints)))
    (below_next (e -ℤ pos c) q r (omega (arith, ints)))

-- ---- ceilings

ceiling : (n r : ℕ) → 0 < r → IsCeiling n r (ceiling_of n r) × (ceiling_of n r * r < n + r)
unfolding ceiling_of
ceiling n r some = (record { not_below = omega arith; least = λ m h. least' n r m some h }, omega arith)
  where
    least' : (n r m : ℕ) → 0 < r → n ≤ m * r → (n + (r - 1)) / r ≤ m
    least' n r m some h =
        let q = (n + (r - 1)) / r in
        ⊎_elim
        (λ less. let le : m + 1 ≤ q = omega arith in
        let times = mul-le-mul_right r le in absurd (omega arith))
        (λ no_more. no_more)
        (cases_lt m q)

-- a change by the greater of two ratios isn't the lesser one
changes : (d f b x y : ℕ) → 0 < f → 0 < b → f * x ≤ b * y → ceiling_of (d * x) b ≤ ceiling_of (d * y) f
changes d f b x y some also h =
    let c = ceiling_of (d * y) f in
    let above = (ceiling (d * y) f some).0.not_below in
    let first : d * (f * x) ≤ d * (b * y) = mul-le-mul_left d h in
    let second : b * (d * y) ≤ b * (c * f) = mul-le-mul_left b above in
    (ceiling (d * x) b also).0.least c (cancel f (d * x) (c * b) some (omega arith))
  where
    cancel : (f m n : ℕ) → 0 < f → f * m ≤ f * n → m ≤ n
    cancel f m n some h =
        ⊎_elim
        (λ less. let le : n + 1 ≤ m = omega arith in
        let times = mul-le-mul_left f le in absurd (omega arith))
        (λ no_more. no_more)
        (cases_lt n m)

-- ---- the middle

split : (b f : ℕ) (u : ℤ) → (u *ℤ pos (b + f)) ≡ (pos b *ℤ u) +ℤ (pos f *ℤ u)
split b f (pos u) = omega (arith, ints)
split b f (negsuc u) = omega (arith, ints)

module _ (f b : ℕ) (stretch : Stretch) (u : ℤ) (some : 0 < f) (also : 0 < b) where
  before_middle : u ≤ℤ middle_of f b stretch → (pos f *ℤ (u -ℤ stretch.begin)) ≤ℤ (pos b *ℤ (stretch.end -ℤ u))
  before_middle h =
      let low = floor_not_above ((pos b *ℤ stretch.end) +ℤ (pos f *ℤ stretch.begin)) (b + f) (omega arith) in
      let le = times_le u (middle_of f b stretch) (b + f) h in
      let is = split b f u in
      rw (times-sub f u stretch.begin, times-sub b stretch.end u) (omega (arith, ints))

  behind_middle : middle_of f b stretch <ℤ u → (pos b *ℤ (stretch.end -ℤ u)) ≤ℤ (pos f *ℤ (u -ℤ stretch.begin))
  behind_middle h =
      let high = floor_next ((pos b *ℤ stretch.end) +ℤ (pos f *ℤ stretch.begin)) (b + f) (omega arith) in
      let le = times_next u (middle_of f b stretch) (b + f) (omega (arith, ints)) in
      let is = split b f u in
      rw (times-sub f u stretch.begin, times-sub b stretch.end u) (omega (arith, ints))

-- ---- ends

-- the level of a mark that isn't beyond
level_is : (drift rate : ℕ) (mark : Mark) (far : ℤ) → 0 < rate → mark.place ≤ℤ far →
    level_at drift rate far (height_of drift rate mark) ≡ mark.error -ℤ change drift rate (far -ℤ mark.place)
level_is drift rate mark far some le =
    let n = drift * unsigned_abs (far -ℤ mark.place) in
    let c = ceiling n rate some in
    let apart = times-sub drift far mark.place in
    let distance : far -ℤ mark.place ≡ pos (unsigned_abs (far -ℤ mark.place)) = omega (arith, ints) in
    let scaled : (pos drift *ℤ (far -ℤ mark.place)) ≡ pos n = ap (λ z. pos drift *ℤ z) distance in
    let is : (height_of drift rate mark -ℤ (pos drift *ℤ far)) ≡ (pos rate *ℤ mark.error) -ℤ pos n =
    omega (arith, ints) in
    ap (λ z. int_div_euclid z (pos rate)) is
    ∙ floor_is mark.error n rate (ceiling_of n rate) some c.0.not_below c.1

-- a higher mark's level is no lower
pub level_grows : (drift rate : ℕ) (far a b : ℤ) → 0 < rate → a ≤ℤ b →
    level_at drift rate far a ≤ℤ level_at drift rate far b
level_grows drift rate far a b some le =
    floor_grows (a -ℤ (pos drift *ℤ far)) (b -ℤ (pos drift *ℤ far)) rate some (omega (arith, ints))

product_from : (k p : ℕ) (z w : ℤ) (x y : ℕ) → z ≡ pos x → w ≡ pos y → (pos k *ℤ z) ≤ℤ (pos p *ℤ w) → k * x ≤ p * y
product_from k p z w x y at_x at_y h = omega (arith, ints, rw (at_x, at_y) at h)

negative : (b : ℕ) (y : ℤ) → 0 < b → y <ℤ pos 0 → (pos b *ℤ y) <ℤ pos 0
negative b (pos y) some h = absurd (omega (arith, ints))
negative b (negsuc y) some h = omega (arith, ints)

not_negative : (f : ℕ) (x : ℤ) → pos 0 ≤ℤ x → pos 0 ≤ℤ (pos f *ℤ x)
not_negative f (pos x) h = omega (arith, ints)
not_negative f (negsuc x) h = absurd (omega (arith, ints))

max_first : (a b : ℤ) → b ≤ℤ a → int_max a b ≡ a
max_first a b h = omega (arith, ints, clamps)

max_second : (a b : ℤ) → a ≤ℤ b → int_max a b ≡ b
max_second a b h = omega (arith, ints, clamps)

clamped : (f b : ℕ) (x y : ℤ) → (pos f *ℤ x) ≤ℤ (pos b *ℤ y) → pos 0 ≤ℤ y → (pos f *ℤ int_max x (pos 0)) ≤ℤ (pos b *ℤ y)
clamped f b (pos x) y h from = rw (max_first (pos x) (pos 0) (omega (arith, ints))) h
clamped f b (negsuc x) y h from = let le = not_negative b y from in omega (arith, ints)

-- the greater change, if the other distance, by its rate, isn't above it
greater : (d f b : ℕ) (x y : ℤ) → 0 < f → 0 < b → pos 0 ≤ℤ y → (pos f *ℤ x) ≤ℤ (pos b *ℤ y) →
    change d b (int_max x (pos 0)) ≤ℤ change d f y
greater d f b x y some also from h =
    let z = int_max x (pos 0) in
    let p : z ≡ pos (unsigned_abs z) = omega (arith, ints, clamps) in
    let q : y ≡ pos (unsigned_abs y) = omega (arith, ints) in
    let h' : (pos f *ℤ z) ≤ℤ (pos b *ℤ y) = clamped f b x y h from in
    let le : f * unsigned_abs z ≤ b * unsigned_abs y =
    product_from f b z y (unsigned_abs z) (unsigned_abs y) p q h' in
    let less : ceiling_of (d * unsigned_abs z) b ≤ ceiling_of (d * unsigned_abs y) f =
    changes d f b (unsigned_abs z) (unsigned_abs y) some also le in
    omega (arith, ints)

module _ (drift onwards back : ℕ) (stretch : Stretch) (mark : Mark) (some : 0 < onwards) (also : 0 < back)
    (order : stretch.begin ≤ℤ stretch.end) where
  module _ (upto : mark.place ≤ℤ middle_of onwards back stretch) where
    up_to_end : mark.place ≤ℤ stretch.end
    up_to_end = by_lt_z stretch.end mark.place
        (λ beyond.
        let le = before_middle onwards back stretch mark.place some also upto in
        let under = negative back (stretch.end -ℤ mark.place) also (omega (arith, ints)) in
        let over = not_negative onwards (mark.place -ℤ stretch.begin) (omega (arith, ints)) in
        absurd (omega (arith, ints)))
        (λ no_more. no_more)

    pub early_end : level_at drift onwards stretch.end (height_of drift onwards mark)
        ≡ end_over drift onwards back stretch mark
    early_end =
        let le = before_middle onwards back stretch mark.place some also upto in
        let in_front = up_to_end in
        let far : ahead mark.place stretch.end ≡ stretch.end -ℤ mark.place =
        max_first (stretch.end -ℤ mark.place) (pos 0) (omega (arith, ints)) in
        level_is drift onwards mark stretch.end some in_front
        ∙ ap (λ z. mark.error -ℤ z)
        (sym (max_first (change drift onwards (stretch.end -ℤ mark.place))
        (change drift back (ahead stretch.begin mark.place))
        (greater drift onwards back (mark.place -ℤ stretch.begin) (stretch.end -ℤ mark.place) some also
        (omega (arith, ints)) le))
        ∙ ap (λ z. int_max (change drift onwards z) (change drift back (ahead stretch.begin mark.place))) (sym far))

  module _ (behind : middle_of onwards back stretch <ℤ mark.place) where
    from_begin : stretch.begin ≤ℤ mark.place
    from_begin = by_lt_z mark.place stretch.begin
        (λ before.
        let le = behind_middle onwards back stretch mark.place some also behind in
        let under = negative onwards (mark.place -ℤ stretch.begin) some (omega (arith, ints)) in
        let over = not_negative back (stretch.end -ℤ mark.place) (omega (arith, ints)) in
        absurd (omega (arith, ints)))
        (λ no_less. no_less)

    pub late_end : (back_to : Mark) → back_to.place ≡ neg_ℤ mark.place → back_to.error ≡ mark.error
        → level_at drift back (neg_ℤ stretch.begin) (height_of drift back back_to)
        ≡ end_over drift onwards back stretch mark
    late_end back_to place error =
        let le = behind_middle onwards back stretch mark.place some also behind in
        let beyond = from_begin in
        let far : ahead stretch.begin mark.place ≡ mark.place -ℤ stretch.begin =
        max_first (mark.place -ℤ stretch.begin) (pos 0) (omega (arith, ints)) in
        let same : neg_ℤ stretch.begin -ℤ back_to.place ≡ mark.place -ℤ stretch.begin = omega (arith, ints, place) in
        level_is drift back back_to (neg_ℤ stretch.begin) also (omega (arith, ints, place))
        ∙ ap₂ (λ e z. e -ℤ change drift back z) error same
        ∙ ap (λ z. mark.error -ℤ z)
        (sym (max_second (change drift onwards (ahead mark.place stretch.end))
        (change drift back (mark.place -ℤ stretch.begin))
        (greater drift back onwards (stretch.end -ℤ mark.place) (mark.place -ℤ stretch.begin) also some
        (omega (arith, ints)) le))
        ∙ ap (λ z. int_max (change drift onwards (ahead mark.place stretch.end)) (change drift back z)) (sym far))
