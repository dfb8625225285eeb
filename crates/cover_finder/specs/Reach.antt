-- Where the longest pieces of a case end, what they show, and where they stop.
use Rattle.std.specs.Prelude.{◌≡◌, ℕ, ◌+◌, ◌<◌, ◌≤◌, ℤ, pos, ◌≤ℤ◌, ◌<ℤ◌, Bool, false, List, [], ◌∷◌, All, Some, length, map, slice_get}
use Rattle.certificate.specs.Certificate.{PieceData}
use Rattle.checker.specs.Stretch.{begin_of}
use Rattle.cover_checker.specs.Acceptance.{ShowBound}
use Rattle.cover_finder.specs.Common.{ClaimData, Exchange, claim_data, end_after, holds, stretch_over}
use Rattle.cover_finder.specs.Open.{LiesInside}
use Rattle.cover_finder.specs.Table.{AreTablesOf}
use Rattle.cover_finder.specs.declared.reach.Search.{Search}
use Rattle.cover_finder.specs.declared.reach.Stop.{Stop}
use Rattle.cover_finder.specs.declared.reach.Stop.TheVariants as stop

-- so it is of a search's claim and of its case, with all exchanges whose tables the search has, if
-- its pieces have to show the claim's bound and no wider one
abbrev pub OfSearch : Search → (ClaimData → List Exchange → (ℕ → Bool) → Type 0) → Type 0
OfSearch search IsSo = (xs : List Exchange)
    → AreTablesOf (claim_data search.claim.now) xs search.tables.now → search.more ≡ 0
    → IsSo (claim_data search.claim.now) xs (holds search.out)

-- the ticks at which pieces end
abbrev pub ends_of : List PieceData → List ℤ
ends_of pieces = map (λ piece. pos piece.upto) pieces

-- each of these pieces shows the bound, from where the piece before it ends
pub record AllShowBound (claim : ClaimData) (xs : List Exchange) (out : ℕ → Bool)
    (pieces : List PieceData) : Type 0 where
  pub each : (k : ℕ) (piece : PieceData) → slice_get pieces k ≡ Some piece → ShowBound claim xs out
      (stretch_over (begin_of claim.first pieces k) (pos piece.upto)) piece.entries

-- pieces that end at these ticks reach the span's end, by one piece at least
pub record ReachEnd (claim : ClaimData) (ends : List ℤ) : Type 0 where
  pub some : 0 < length ends
  pub with_span : end_after claim.first ends ≡ claim.last

-- Pieces that end at these ticks stop at a tick that isn't shown: the hull over it, from where the
-- last of them ends, doesn't lie inside the bound. The tick is one moment if the span is.
pub record StopUnshown (claim : ClaimData) (xs : List Exchange) (out : ℕ → Bool) (ends : List ℤ)
    (readings : List ℕ) : Type 0 where
  pub begin : ℕ
  pub end : ℕ
  pub are : readings ≡ begin ∷ end ∷ []
  pub begins : pos begin ≡ end_after claim.first ends
  pub from_first : claim.first ≤ℤ pos begin
  pub in_order : begin ≤ end
  pub one_tick : end ≤ begin + 1
  pub to_last : pos end ≤ℤ claim.last
  pub not_shown : LiesInside claim xs out (pos begin) (pos end) false

-- pieces that end at these ticks are as many as may be, and end before the span does
pub record AreFull (claim : ClaimData) (most : ℕ) (ends : List ℤ) : Type 0 where
  pub as_many : length ends ≡ most
  pub before : All (λ end. end <ℤ claim.last) ends

-- pieces that end at these ticks stop so, of which there may be so many
abbrev pub IsStopOf : ClaimData → List Exchange → (ℕ → Bool) → ℕ → List ℤ → Stop → Type 0
IsStopOf claim xs out most ends stop.End = ReachEnd claim ends
IsStopOf claim xs out most ends (stop.Unshown readings) = StopUnshown claim xs out ends readings
IsStopOf claim xs out most ends stop.Full = AreFull claim most ends
