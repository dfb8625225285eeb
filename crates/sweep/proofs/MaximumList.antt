-- The maxima of extremes.
use Rattle.sweep.proofs.Common.{◌≡◌, ℕ, ◌+◌, ◌-◌, ◌*◌, ◌/◌, ◌<◌, ◌≤◌, List, [], ◌∷◌, ◌++◌, length, Some, refl, arith, ◌∙◌, ◌⊎◌, inl, inr, ⊎_elim, slice_get, cases_lt, slice_get_within, div-mul-le_self, mul-le-mul_right, IsRate, billion, IsMaximumOf, IsTopped, MaximaRise, AreMaximaOf, IsHeightUpto, IsEarlyLevel, IsQueueOf, IsEarlyAtLeast, Extreme, PrefixMaximum, Arrival, UnsignedStretch, slice_get-below}
use Rattle.sweep.proofs.List.{below_next, each_pushed, rises_pushed, slice_get-front, slice_get-last}

-- the maxima of the first n arrivals of these extremes: none comes after an arrival that is still to come
pub record MaximaSoFar (ppb : ℕ) (extremes : List Extreme) (queue : List Arrival) (n : ℕ) (maxima : List PrefixMaximum)
    : Type 0 where
  pub each : (i : ℕ) (maximum : PrefixMaximum) → slice_get maxima i ≡ Some maximum → IsMaximumOf ppb extremes maximum
  pub before : (i : ℕ) (maximum : PrefixMaximum) → slice_get maxima i ≡ Some maximum →
      (k : ℕ) (a : Arrival) → n ≤ k → slice_get queue k ≡ Some a → maximum.place ≤ a.at
  pub all : (k : ℕ) (a : Arrival) → k < n → slice_get queue k ≡ Some a → IsTopped maxima a.at a.height
  pub rise : MaximaRise maxima

module _ (ppb : ℕ) (extremes : List Extreme) (queue : List Arrival) (are : IsQueueOf ppb extremes queue) where
  module _ (n : ℕ) (maxima : List PrefixMaximum) (so_far : MaximaSoFar ppb extremes queue n maxima) (a : Arrival)
      (here : slice_get queue n ≡ Some a) where
    -- an arrival that isn't higher than the last maximum
    pub MaximaSoFar-kept : (last : PrefixMaximum) → slice_get maxima (length maxima - 1) ≡ Some last →
        a.height ≤ last.height →
        MaximaSoFar ppb extremes queue (n + 1) maxima
    MaximaSoFar-kept last at_last under = grind arith

    -- an arrival that is
    module _ (maximum : PrefixMaximum) (place : maximum.place ≡ a.at) (height_is : maximum.height ≡ a.height)
        (above : (last : PrefixMaximum) → slice_get maxima (length maxima - 1) ≡ Some last → last.height < a.height)
      where
        pub MaximaSoFar-more : MaximaSoFar ppb extremes queue (n + 1) (maxima ++ maximum ∷ [])
        MaximaSoFar-more = record {
          each = each_pushed (λ i. IsMaximumOf ppb extremes) maxima maximum so_far.each
              (grind (arith, are.each n a here));
          before = each_pushed (λ i x. (k : ℕ) (b : Arrival) → n + 1 ≤ k → slice_get queue k ≡ Some b → x.place ≤ b.at)
              maxima maximum (λ i x at k b le. so_far.before i x at k b (omega arith))
              (λ k b le at. omega (arith, place, are.in_order n k a b (omega arith) here at));
          all = below_next (λ k x. IsTopped (maxima ++ maximum ∷ []) x.at x.height) queue n a here
              (λ k x old at.
              let top = so_far.all k x old at in
              let within = slice_get_within maxima top.index top.maximum top.stands in
              grind (arith, slice_get-front maxima maximum top.index within ∙ top.stands))
              (grind (arith, slice_get-last maxima maximum));
          rise = rises_pushed (λ x y. (x.place ≤ y.place) × (x.height ≤ y.height)) maxima maximum so_far.rise
              (λ i x at.
              let within = slice_get_within maxima i x at in
              let last = slice_get-below maxima (length maxima - 1) (omega arith) in
              let lower = so_far.rise i (length maxima - 1) x last.0 (omega arith) at last.1 in
              let less = above last.0 last.1 in
              let early = so_far.before i x at n a (omega arith) here in
              (omega (arith, place), omega (arith, height_is)))
              (omega arith, omega arith);
        }

  -- all of them
  pub AreMaximaOf-all : (n : ℕ) (maxima : List PrefixMaximum) → length queue ≤ n →
      MaximaSoFar ppb extremes queue n maxima → AreMaximaOf ppb extremes maxima
  AreMaximaOf-all n maxima enough so_far = record {
    each = so_far.each;
    all = λ index extreme is.
        let came = are.all index extreme is in
        let own = are.each came.0 came.1 came.2 in
        let within = slice_get_within queue came.0 came.1 came.2 in
        let top = so_far.all came.0 came.1 (omega arith) came.2 in
        grind (arith, own, came.3);
    rise = so_far.rise;
  }

-- ---- asked up to a place

module _ (ppb : ℕ) (extremes : List Extreme) (maxima : List PrefixMaximum) (are : AreMaximaOf ppb extremes maxima)
    (place count : ℕ)
    (beyond : (maximum : PrefixMaximum) → slice_get maxima count ≡ Some maximum → place < maximum.place) where
  -- a maximum that comes up to it stands before the first that doesn't
  before : (i : ℕ) (maximum : PrefixMaximum) → slice_get maxima i ≡ Some maximum → maximum.place ≤ place → i < count
  before i maximum at upto = ⊎_elim
      (λ less. less)
      (λ past.
      let within = slice_get_within maxima i maximum at in
      let first = slice_get-below maxima count (omega arith) in
      let order = (are.rise count i first.0 maximum past first.1 at).0 in
      absurd (omega (arith, beyond first.0 first.1)))
      (cases_lt i count)

  -- none comes up to it
  pub IsHeightUpto-none : count ≡ 0 → IsHeightUpto ppb extremes place 0
  IsHeightUpto-none none = record {
    of_one = inl refl;
    no_lower = λ index extreme is upto.
        let top = are.all index extreme is in
        absurd (omega (arith, before top.index top.maximum top.stands (omega arith)));
  }

  -- the last that does
  pub IsHeightUpto-last : (last : PrefixMaximum) → 0 < count → slice_get maxima (count - 1) ≡ Some last →
      last.place ≤ place → IsHeightUpto ppb extremes place last.height
  IsHeightUpto-last last some at_last upto = record {
    of_one = inr (grind (arith, are.each (count - 1) last at_last));
    no_lower = λ index extreme is early.
        let top = are.all index extreme is in
        let inside = before top.index top.maximum top.stands (omega arith) in
        omega (arith, (are.rise top.index (count - 1) top.maximum last (omega arith) top.stands at_last).1);
  }

-- ---- the level of a height

module _ (ppb : ℕ) (slow : IsRate ppb) (extremes : List Extreme) (stretch : UnsignedStretch) (greatest : ℕ)
    (is : IsHeightUpto ppb extremes (stretch.begin + stretch.end) greatest) where
  reached : (level : ℕ) → level ≡ (greatest - ppb * stretch.end) / (billion - ppb) →
      (level ≡ 0) ⊎ ((index : ℕ) × IsEarlyAtLeast ppb extremes stretch index level)
  reached level level_is =
      let under : level * (billion - ppb) ≤ greatest - ppb * stretch.end =
      rw level_is (div-mul-le_self (greatest - ppb * stretch.end) (billion - ppb)) in
      ⊎_elim
      (λ positive.
      let least : 1 * (billion - ppb) ≤ level * (billion - ppb) = mul-le-mul_right (billion - ppb) positive in
      ⊎_elim
      (λ none. absurd (omega arith))
      (λ one. inr (one.index, grind arith))
      is.of_one)
      (λ none. inl (omega arith))
      (cases_lt 0 level)

  pub IsEarlyLevel-room : (level : ℕ) → level ≡ (greatest - ppb * stretch.end) / (billion - ppb) →
      IsEarlyLevel ppb extremes stretch level
  IsEarlyLevel-room level level_is = grind (arith, reached level level_is)
