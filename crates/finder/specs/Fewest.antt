-- The certificate of fewest pieces.
--
-- Each of its pieces is as long as it can be: it ends at the last tick up to which the hull of the
-- best entries lies inside the bound, and the next one begins there. A piece has at least one tick,
-- unless the span is one moment, which is one piece. Where the hull over the one tick from a
-- piece's begin isn't inside the bound, there is no such piece.
use Rattle.std.specs.Prelude.{◌≡◌, ◌<◌, ◌≤◌, ℤ, pos, ◌+ℤ◌, ◌≤ℤ◌, ◌<ℤ◌, unsigned_abs, ⊤, Bool, true, false, List, [], ◌∷◌, ◌++◌, length}
use Rattle.finder.specs.Common.{int_min, PieceData, CertificateData, max_pieces, ClaimData, Hull, Unbounded, Empty, Bounded, Sample, is_inside, Stretch, verdict_of, Yes}
use Rattle.finder.specs.Entry.{best_entries, best_hull}

-- ---- hulls, one no wider than another

-- where neither is empty, the ends of the one hold those of the other; and if the one is empty, so
-- is the other
abbrev pub IsNoWider : Hull → Hull → Type 0
IsNoWider (Bounded lo hi) (Bounded lo' hi') = (lo ≤ℤ lo') × (hi' ≤ℤ hi)
IsNoWider (Bounded lo hi) Empty = ⊤
IsNoWider (Bounded lo hi) Unbounded = ⊥
IsNoWider Empty inner = inner ≡ Empty
IsNoWider Unbounded inner = ⊤

-- ---- a piece

-- the readings from one to another
abbrev pub stretch_over : ℤ → ℤ → Stretch
stretch_over p q = record { begin = p; end = q }

module _ (samples : List Sample) (claim : ClaimData) where
  -- the hull of the best entries there
  abbrev pub hull_over : ℤ → ℤ → Hull
  hull_over p q = best_hull samples claim (stretch_over p q)

  -- whether it shows that the error is within the bound
  abbrev pub shows : ℤ → ℤ → Bool
  shows p q = is_inside claim.bound (hull_over p q)

  -- where the shortest piece from p ends: a tick later, or with the span
  abbrev pub next_tick : ℤ → ℤ
  next_tick p = int_min (p +ℤ pos 1) claim.last

  -- the longest piece from p ends at q; the tick from p by itself is shown too
  pub record IsLongest (p q : ℤ) : Type 0 where
    pub some_tick : next_tick p ≤ℤ q
    pub in_span : q ≤ℤ claim.last
    pub tick_shown : shows p (next_tick p) ≡ true
    pub shown : shows p q ≡ true
    pub no_longer : (r : ℤ) → q <ℤ r → r ≤ℤ claim.last → shows p r ≡ false

  -- the next tick from p isn't shown: the hull up to there, which is this one, isn't inside the
  -- bound
  pub record FailsAt (p : ℤ) (hull : Hull) : Type 0 where
    pub its_hull : hull ≡ hull_over p (next_tick p)
    pub fails : is_inside claim.bound hull ≡ false

  -- ---- one piece after another

  -- the longest pieces from p on end at these ticks, and each before the span does
  abbrev pub AreLongest : ℤ → List ℤ → Type 0
  AreLongest p [] = ⊤
  AreLongest p (q ∷ ends) = IsLongest p q × (q <ℤ claim.last) × AreLongest q ends

  -- the pieces from p on that end at these ticks, with the best entries of each
  abbrev pub piece_over : ℤ → ℤ → PieceData
  piece_over p q = record {
    entries = best_entries samples claim (stretch_over p q);
    upto = unsigned_abs q;
  }

  abbrev pub pieces_over : ℤ → List ℤ → List PieceData
  pieces_over p [] = []
  pieces_over p (q ∷ ends) = piece_over p q ∷ pieces_over q ends

-- where the last of them ends
abbrev pub end_after : ℤ → List ℤ → ℤ
end_after p [] = p
end_after p (q ∷ ends) = end_after q ends

-- ---- what is found

module _ (samples : List Sample) (claim : ClaimData) where
  -- the longest pieces of the span, one after another, no more than a certificate may have: the
  -- last one ends with the span, and each other one before it
  pub record IsOfLongest (certificate : CertificateData) : Type 0 where
    pub earlier : List ℤ
    pub longest : AreLongest samples claim claim.first earlier
    pub last : IsLongest samples claim (end_after claim.first earlier) claim.last
    pub few : length earlier < max_pieces
    pub pieces : certificate.pieces
        ≡ pieces_over samples claim claim.first (earlier ++ claim.last ∷ [])

  -- where the longest pieces have come to, fewer than a certificate may have, the next tick doesn't
  -- show it: the hull, which is this one, isn't inside the bound
  pub record IsStuck (begin end : ℤ) (hull : Hull) : Type 0 where
    pub earlier : List ℤ
    pub longest : AreLongest samples claim claim.first earlier
    pub few : length earlier < max_pieces
    pub begins : begin ≡ end_after claim.first earlier
    pub ends : end ≡ next_tick samples claim begin
    pub its_hull : hull ≡ hull_over samples claim begin end
    pub fails : is_inside claim.bound hull ≡ false

  -- as many longest pieces as a certificate may have don't reach the span's end
  pub record IsTooLong : Type 0 where
    pub earlier : List ℤ
    pub longest : AreLongest samples claim claim.first earlier
    pub as_many : length earlier ≡ max_pieces

  -- ---- what that says of other certificates

  -- no accepted certificate has fewer pieces than this one
  abbrev pub HasFewest : CertificateData → Type 0
  HasFewest certificate = (other : CertificateData) → verdict_of samples claim other ≡ Yes
      → length certificate.pieces ≤ length other.pieces

  -- no certificate is accepted
  abbrev pub NoneIsAccepted : Type 0
  NoneIsAccepted = (other : CertificateData) → ¬ (verdict_of samples claim other ≡ Yes)

  -- none that may be written
  abbrev pub NoneOfFewIsAccepted : Type 0
  NoneOfFewIsAccepted = (other : CertificateData) → length other.pieces ≤ max_pieces
      → ¬ (verdict_of samples claim other ≡ Yes)
