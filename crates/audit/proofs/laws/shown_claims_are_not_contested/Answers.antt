use Rattle.audit.proofs.Common.{◌≡◌, ℕ, Some, refl, sym, subst, arith, slice_get, ClaimData, Exchange, Fits, IsAmong}
use Rattle.audit.proofs.Opposition.{renumbered, still_fits}
use Rattle.audit.proofs.laws.shown_claims_are_not_contested.Goals as goal

pub returns : goal.returns
returns c text bytes shown contested =
    let s = shown.said in
    let t = contested.said in
    let claim_same = c.texts_say_one_claim.ensures text shown.claim contested.claim s.claim_is t.claim_is in
    let (_, unit_same, frames_same) = c.captures_say_one_list_of_frames.ensures bytes s.order t.order s.unit t.unit
    s.frames t.frames s.capture_is t.capture_is in
    let among : (k : ℕ) (x : Exchange) → slice_get shown.exchanges k ≡ Some x → IsAmong contested.exchanges x =
    λ k x at. contested.none_is_missing x (rw (claim_same, unit_same, frames_same) at (s.exchanges_are k x at)) in
    let beyond = contested.beyond in
    let course = renumbered shown.exchanges contested.exchanges among beyond.course in
    let fits = still_fits shown.exchanges contested.exchanges among contested.claim beyond.course beyond.fits.fits in
    let at = shown.within course.fineness course.observation.reading (rw claim_same beyond.in_span) in
    let fits_shown = subst (λ (claim : ClaimData). Fits claim shown.exchanges course) (sym claim_same) fits in
    let within = at.6 course refl refl
    (c.capture_fits_each_piece.ensures shown.claim shown.exchanges at.0 course fits_shown) in
    let above = rw (← claim_same) at contested.beyond_nanoseconds in
    absurd (omega (arith, within, above))
