-- The least bound that a certificate carries.
--
-- With each bound the search for the certificate of fewest pieces finds one, or stops at a tick.
-- The least bound is one with which it finds a certificate, and with a nanosecond less it doesn't.
-- Where some course of events fits, no tick's hull is empty, and then no certificate that may be
-- written carries a lesser bound, and each wider one has a certificate too.
use Rattle.std.specs.Prelude.{◌≡◌, ◌≢◌, ◌⊎◌, ℕ, pos, ◌+◌, ◌*◌, ◌/◌, ◌<◌, ◌≤◌, ℤ, ◌-ℤ◌, ◌≤ℤ◌, ◌<ℤ◌, unsigned_abs, List, Option, Result, IfOk, IfSome, MatchOption}
use Rattle.finder.specs.Common.{AllocError, ticks_per_second, CertificateData, ClaimData, max_bound_ns, with_bound, Hull, Empty, Sample}
use Rattle.finder.specs.Fewest.{IsOfLongest, IsStuck, IsTooLong, NoneOfFewIsAccepted, end_after, hull_over, next_tick, stretch_over}
use Rattle.finder.specs.Piece.{stretch_at}
use Rattle.finder.specs.Refusal.{HoldsWhole}
use Rattle.finder.specs.declared.carried.LeastCarried.{LeastCarried}

-- a piece of one tick begins here: at the first reading of the span, or before the last
pub record IsTick (claim : ClaimData) (p : ℤ) : Type 0 where
  pub from_first : claim.first ≤ℤ p
  pub begins : (p ≡ claim.first) ⊎ (p <ℤ claim.last)

module _ (samples : List Sample) (claim : ClaimData) where
  -- the search for the certificate of fewest pieces finds one
  abbrev pub IsCarried : Type 0
  IsCarried = (certificate : CertificateData) × IsOfLongest samples claim certificate

  -- it gets stuck at some tick
  abbrev pub GetStuck : Type 0
  GetStuck = (begin : ℤ) × (end : ℤ) × (hull : Hull) × IsStuck samples claim begin end hull

  -- it finds none: the longest pieces come to this tick, which isn't shown, or they are as many as
  -- a certificate may have
  abbrev pub StopsAt : ℤ → Type 0
  StopsAt tick = ((end : ℤ) × (hull : Hull) × IsStuck samples claim tick end hull)
      ⊎ ((long : IsTooLong samples claim) × (tick ≡ end_after claim.first long.earlier))

  -- at no tick of the span do the samples contradict each other
  abbrev pub IsNeverEmpty : Type 0
  IsNeverEmpty = (p : ℤ) → IsTick claim p
      → hull_over samples claim p (next_tick samples claim p) ≢ Empty

-- a bound of this many nanoseconds is the first with a certificate: with a nanosecond less the
-- search stops at this tick, and a bound of 0 has no lesser one
abbrev pub IsFirst : List Sample → ClaimData → ℕ → ℤ → Type 0
IsFirst samples claim n tick = ((n ≡ 0) × (tick ≡ claim.first))
    ⊎ ((m : ℕ) × (n ≡ m + 1) × StopsAt samples (with_bound claim m) tick)

-- what a search for the least bound answers
pub record FindsLeastBound (samples : List Sample) (claim : ClaimData)
    (result : Result (Option LeastCarried) AllocError) : Type 0 where
  -- with this bound a certificate is found
  pub found : IfOk result (λ some. IfSome some (λ least.
      IsCarried samples (with_bound claim least.bound_ns)))
  -- with a nanosecond less none is
  pub not_below : IfOk result (λ some. IfSome some (λ least.
      IsFirst samples claim least.bound_ns (pos least.tick)))
  -- unless the samples contradict each other at a tick, with no lesser bound is any certificate
  -- accepted that may be written
  pub least : IfOk result (λ some. IfSome some (λ least. IsNeverEmpty samples claim →
      (m : ℕ) → m < least.bound_ns → NoneOfFewIsAccepted samples (with_bound claim m)))
  -- and with each wider one a certificate is found
  pub enough : IfOk result (λ some. IfSome some (λ least. IsNeverEmpty samples claim →
      (m : ℕ) → least.bound_ns ≤ m → m ≤ max_bound_ns → IsCarried samples (with_bound claim m)))
  -- there is none exactly if none is found with the greatest bound that a claim may have
  pub none : IfOk result (λ some. MatchOption some
      ((tick : ℤ) × StopsAt samples (with_bound claim max_bound_ns) tick)
      (λ least. IsCarried samples (with_bound claim max_bound_ns)))
  -- the bound is one that a claim may have, and the tick is of the span
  pub lawful : IfOk result (λ some. IfSome some (λ least.
      (least.bound_ns ≤ max_bound_ns) × IsTick claim (pos least.tick)))

-- ---- of the pieces that are cut every so many seconds

-- the number of the piece that holds the tick from p
abbrev pub piece_holding : ClaimData → ℕ → ℤ → ℕ
piece_holding claim step p = unsigned_abs (p -ℤ claim.first) / (step * ticks_per_second)

-- piece k holds the whole of the tick from p
abbrev pub HoldsTick : List Sample → ClaimData → ℕ → ℕ → ℤ → Type 0
HoldsTick samples claim step k p =
    HoldsWhole (stretch_at claim step k) (stretch_over p (next_tick samples claim p))
