-- What the longest pieces say of certificates: theirs is accepted, and no accepted one has fewer pieces.
use Rattle.finder.proofs.Common.{◌≡◌, ◌≢◌, ℕ, suc, ◌+◌, ◌<◌, ℤ, pos, ◌≤ℤ◌, int_lt, Bool, true, false, true≢false, cond, ◌||◌, inl, inr, ⊎_elim, ◌⊎◌, ◌<ℤ◌, List, [], ◌∷◌, ◌++◌, length, Option, Some, None, refl, sym, ap, ◌∙◌, subst, arith, slice_get, IsSomeAnd, nat_tests, ints, clamps, PieceData, CertificateData, ClaimData, IsLawful, Hull, Empty, Sample, is_inside, IsPiece, last_end, stretches_from, piece_fault, verdict_from, verdict_of, Yes, Why, Cut, best_entries, AreLongest, IsLongest, IsNoWider, IsStuck, IsTooLong, NoneIsAccepted, NoneOfFewIsAccepted, end_after, hull_over, next_tick, piece_over, pieces_over, shows, stretch_over, HoldsWhole, AreSamplesOf, int_lt-false}
use Rattle.checker.proofs.PieceVerdict.{each_passes}
use Rattle.checker.proofs.VerdictPieces.{yes_end}
use Rattle.finder.proofs.Narrow.{no_wider_within, shows_as_much}
use Rattle.finder.proofs.Nearest.{int_cases}
use Rattle.finder.proofs.Refusal.{Pass, pass_each, shows_piece, some_and}
use Rattle.finder.proofs.Verdict.{covered, entries_fault, inside_passes, one_passed}

not_inside : (bound : ℤ) (hull : Hull) → hull ≡ Empty → is_inside bound hull ≡ true → ⊥
not_inside bound hull empty inside = true≢false (sym inside ∙ ap (is_inside bound) empty)

empty_stays : (outer inner : Hull) → IsNoWider outer inner → outer ≡ Empty → inner ≡ Empty
empty_stays outer inner is empty = grind (arith, ints, nat_tests, subst (λ (h : Hull). IsNoWider h inner) empty is)

-- a piece that passes doesn't end after the span
not_cut : (cut late : Bool) (rest : Option Why) → cond (cut || late) (Some Cut) rest ≡ None → late ≡ false
not_cut true late rest e = absurd cc
not_cut false true rest e = absurd cc
not_cut false false rest e = refl

-- a reading of the span
pub record InSpan (claim : ClaimData) (p : ℤ) : Type 0 where
  pub from_zero : pos 0 ≤ℤ p
  pub to_last : p ≤ℤ claim.last

-- where the longest pieces from a reading have come to: it, or a tick before the span's end
pub record Reaches (claim : ClaimData) (p q : ℤ) : Type 0 where
  pub later : p ≤ℤ q
  pub to_last : q ≤ℤ claim.last
  pub begins : (q ≡ p) ⊎ (q <ℤ claim.last)

pub reached : (samples : List Sample) (claim : ClaimData) (p : ℤ) (earlier : List ℤ) → p ≤ℤ claim.last
    → AreLongest samples claim p earlier → Reaches claim p (end_after p earlier)
reached samples claim p [] within longest = record { later = omega (arith, ints); to_last = within; begins = inl refl }
reached samples claim p (q ∷ earlier) within longest =
    let rest = reached samples claim q earlier longest.0.in_span longest.2 in
    record {
      later = omega (arith, ints, clamps, rest.later);
      to_last = rest.to_last;
      begins = inr (⊎_elim (λ same. omega (arith, ints)) (λ less. less) rest.begins);
    }

-- the tick at which they get stuck
pub stuck_at : (samples : List Sample) (claim : ClaimData) (begin end : ℤ) (hull : Hull) → claim.first ≤ℤ claim.last
    → IsStuck samples claim begin end hull → Reaches claim claim.first begin
stuck_at samples claim begin end hull forward stuck =
    rw stuck.begins (reached samples claim claim.first stuck.earlier forward stuck.longest)

module _ (samples : List Sample) (claim : ClaimData) (lawful : IsLawful claim)
    (are : AreSamplesOf claim samples) where
  pub first_in_span : InSpan claim claim.first
  first_in_span = record { from_zero = lawful.span_begins; to_last = lawful.span_forward }

  pub piece_to : (p q : ℤ) → InSpan claim p → p ≤ℤ q → q ≤ℤ claim.last → IsPiece p q
  piece_to p q is forward within = omega (arith, ints)

  pub next_later : (p : ℤ) → InSpan claim p → p ≤ℤ next_tick samples claim p
  next_later p is = omega (arith, ints, clamps)

  pub next_within : (p : ℤ) → next_tick samples claim p ≤ℤ claim.last
  next_within p = omega (arith, ints, clamps)

  -- ---- the longest piece

  pub longest_forward : (p q : ℤ) → InSpan claim p → IsLongest samples claim p q → p ≤ℤ q
  longest_forward p q is long = omega (arith, ints, next_later p is)

  pub end_in_span : (p q : ℤ) → InSpan claim p → IsLongest samples claim p q → InSpan claim q
  end_in_span p q is long = omega (arith, ints, longest_forward p q is long)

  -- a shorter piece shows no less, unless its hull is empty; and then so is the longer one's
  shorter : (p q r : ℤ) → InSpan claim p → p ≤ℤ q → q ≤ℤ r → r ≤ℤ claim.last
      → IsNoWider (hull_over samples claim p r) (hull_over samples claim p q)
  shorter p q r is forward more within =
      no_wider_within samples claim (stretch_over p r) (stretch_over p q) lawful.drift_in_range are
      (piece_to p q is forward (omega (arith, ints))) (omega (arith, ints), more)

  -- ---- their certificate is accepted

  longest_passed : (k : ℕ) (p q : ℤ) (rest : List PieceData) → InSpan claim p → IsLongest samples claim p q
      → verdict_from samples claim k p (piece_over samples claim p q ∷ rest) ≡ verdict_from samples claim (k + 1) q rest
  longest_passed k p q rest is long =
      one_passed samples claim k p q rest (piece_to p q is (longest_forward p q is long) long.in_span) long.in_span
      long.shown

  pub yes_from : (k : ℕ) (p : ℤ) (earlier : List ℤ) → InSpan claim p → AreLongest samples claim p earlier
      → IsLongest samples claim (end_after p earlier) claim.last
      → verdict_from samples claim k p (pieces_over samples claim p (earlier ++ claim.last ∷ [])) ≡ Yes
  yes_from k p [] is longest last =
      longest_passed k p claim.last [] is last ∙ covered samples claim (k + 1) claim.last (omega arith) refl
  yes_from k p (q ∷ earlier) is longest last =
      longest_passed k p q (pieces_over samples claim q (earlier ++ claim.last ∷ [])) is longest.0
      ∙ yes_from (k + 1) q earlier (end_in_span p q is longest.0) longest.2 last

  -- ---- an accepted certificate has no fewer

  -- from a reading no later than ours its piece ends no later
  pub no_further : (a p q : ℤ) (t : PieceData) → InSpan claim p → a ≤ℤ p → IsLongest samples claim p q
      → piece_fault samples claim a t ≡ None → pos t.upto ≤ℤ q
  no_further a p q t is earlier long passes = ⊎_elim
      (λ beyond. absurd (
      let end : ℤ = pos t.upto in
      let within : end ≤ℤ claim.last = int_lt-false claim.last end
      (not_cut (int_lt end a) (int_lt claim.last end) _ passes) in
      let shown = shows_piece samples claim a t passes in
      let forward = longest_forward p q is long in
      let on : p ≤ℤ end = omega (arith, ints) in
      ⊎_elim
      (λ empty. not_inside claim.bound (hull_over samples claim p q)
      (empty_stays (hull_over samples claim p end) (hull_over samples claim p q)
      (shorter p q end is forward (omega (arith, ints)) within) empty) long.shown)
      (λ inside. true≢false (sym inside ∙ long.no_longer end beyond within))
      (shows_as_much samples claim (stretch_over a end) (stretch_over p end) shown.entries lawful.drift_in_range are
      (piece_to p end is on within) (earlier, omega (arith, ints)) shown.passes)))
      (λ le. le)
      (int_cases q (pos t.upto))

  -- so it takes more pieces to the end than ours that end before it
  more_pieces : (a p : ℤ) (theirs : List PieceData) (ours : List ℤ) → InSpan claim p → a ≤ℤ p
      → AreLongest samples claim p ours → Pass samples claim a theirs → last_end a theirs ≡ claim.last
      → 0 < length theirs → length ours < length theirs
  more_pieces a p theirs [] is earlier longest pass last some = some
  more_pieces a p [] (q ∷ ours) is earlier longest pass last some = absurd (omega arith)
  more_pieces a p (t ∷ []) (q ∷ ours) is earlier longest pass last some = absurd (
      let end = no_further a p q t is earlier longest.0 (pass 0 t refl) in
      let all : pos t.upto ≡ claim.last = last in
      omega (arith, ints))
  more_pieces a p (t ∷ next ∷ theirs) (q ∷ ours) is earlier longest pass last some =
      let rest : length ours < length (next ∷ theirs) = more_pieces (pos t.upto) q (next ∷ theirs) ours
      (end_in_span p q is longest.0)
      (no_further a p q t is earlier longest.0 (pass 0 t refl)) longest.2 (λ k other at. pass (suc k) other at) last
      (omega arith) in
      omega (arith, rest)

  pub pass_of : (other : CertificateData) → verdict_of samples claim other ≡ Yes
      → Pass samples claim claim.first other.pieces
  pass_of other accepted = each_passes samples claim 0 claim.first other.pieces accepted

  covers : (other : CertificateData) → verdict_of samples claim other ≡ Yes
      → (0 < length other.pieces) × (last_end claim.first other.pieces ≡ claim.last)
  covers other accepted = grind (arith, ints, nat_tests, yes_end samples claim 0 claim.first other.pieces accepted)

  pub more_of_accepted : (earlier : List ℤ) → AreLongest samples claim claim.first earlier
      → (other : CertificateData) → verdict_of samples claim other ≡ Yes → length earlier < length other.pieces
  more_of_accepted earlier longest other accepted =
      let (some_piece, to_end) = covers other accepted in
      more_pieces claim.first claim.first other.pieces earlier first_in_span (omega (arith, ints)) longest
      (pass_of other accepted) to_end some_piece

  pub as_many_pieces : (p : ℤ) (ends : List ℤ) → length (pieces_over samples claim p ends) ≡ length ends
  as_many_pieces p [] = refl
  as_many_pieces p (q ∷ ends) = let rest = as_many_pieces q ends in omega (arith, rest)

  -- ---- a tick that doesn't show it

  -- a piece of whatever cuts the span holds the whole of the tick
  pub some_over : (a p : ℤ) (theirs : List PieceData) → a ≤ℤ p → 0 < length theirs
      → next_tick samples claim p ≤ℤ last_end a theirs
      → (k : ℕ) × IsSomeAnd (slice_get (stretches_from a theirs) k)
      (λ piece. HoldsWhole piece (stretch_over p (next_tick samples claim p)))
  some_over a p [] earlier some within = absurd (omega arith)
  some_over a p (t ∷ []) earlier some within = (0, (earlier, within))
  some_over a p (t ∷ next ∷ theirs) earlier some within = ⊎_elim
      (λ before.
      let rest = some_over (pos t.upto) p (next ∷ theirs) (omega (arith, ints, clamps)) (omega arith) within in
      (suc rest.0, rest.1))
      (λ reaches. (0, (earlier, reaches)))
      (int_cases (pos t.upto) (next_tick samples claim p))

  -- so none is accepted
  pub none_accepted_over : (p : ℤ) (hull : Hull) → InSpan claim p → claim.first ≤ℤ p
      → hull ≡ hull_over samples claim p (next_tick samples claim p) → is_inside claim.bound hull ≡ false
      → hull ≢ Empty → (other : CertificateData) → ¬ (verdict_of samples claim other ≡ Yes)
  none_accepted_over p hull is from its_hull fails some other accepted =
      let (some_piece, to_end) = covers other accepted in
      let inner = stretch_over p (next_tick samples claim p) in
      let within : next_tick samples claim p ≤ℤ last_end claim.first other.pieces =
      rw to_end (next_within p) in
      let over = some_over claim.first p other.pieces from some_piece within in
      let outer = some_and (λ outer. HoldsWhole outer inner) _ over.1 in
      let shown = pass_each samples claim claim.first other.pieces (pass_of other accepted) over.0 outer.0 outer.1 in
      ⊎_elim
      (λ empty. some (its_hull ∙ empty))
      (λ inside. true≢false (sym inside ∙ ap (is_inside claim.bound) (sym its_hull) ∙ fails))
      (shows_as_much samples claim outer.0 inner shown.entries lawful.drift_in_range are
      (piece_to p (next_tick samples claim p) is (next_later p is) (next_within p)) outer.2 shown.passes)

  -- where they get stuck, none is accepted, unless the samples contradict each other there
  pub none_if_stuck : (begin end : ℤ) (hull : Hull) → IsStuck samples claim begin end hull → hull ≢ Empty
      → NoneIsAccepted samples claim
  none_if_stuck begin end hull is =
      let at = stuck_at samples claim begin end hull lawful.span_forward is in
      none_accepted_over begin hull (omega (arith, ints, at.later, at.to_last)) at.later
      (is.its_hull ∙ ap (hull_over samples claim begin) is.ends) is.fails

  -- where as many as may be don't reach the end, none is accepted that may be written
  pub none_if_too_long : IsTooLong samples claim → NoneOfFewIsAccepted samples claim
  none_if_too_long is other few accepted =
      absurd (omega (arith, is.as_many, few, more_of_accepted is.earlier is.longest other accepted))

  -- ---- halving

  -- what the least piece shows up to some tick, it shows up to each earlier one
  pub shown_before : (p q r : ℤ) → InSpan claim p → next_tick samples claim p ≤ℤ q → q ≤ℤ r → r ≤ℤ claim.last
      → shows samples claim p (next_tick samples claim p) ≡ true → shows samples claim p r ≡ true
      → shows samples claim p q ≡ true
  shown_before p q r is some more within least shown =
      let next = next_later p is in
      let forward : p ≤ℤ q = omega (arith, ints) in
      let to : q ≤ℤ claim.last = omega (arith, ints) in
      let passes = entries_fault samples claim (stretch_over p r)
      ∙ inside_passes claim.bound (hull_over samples claim p r) shown in
      let order : p ≤ℤ p = omega (arith, ints) in
      ⊎_elim
      (λ empty. absurd (not_inside claim.bound (hull_over samples claim p (next_tick samples claim p))
      (empty_stays (hull_over samples claim p q) (hull_over samples claim p (next_tick samples claim p))
      (shorter p (next_tick samples claim p) q is next some to) empty) least))
      (λ inside. inside)
      (shows_as_much samples claim (stretch_over p r) (stretch_over p q) (best_entries samples claim (stretch_over p r))
      lawful.drift_in_range are (piece_to p q is forward to) (order, more) passes)
