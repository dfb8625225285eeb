use Rattle.audit.proofs.Common.{◌≡◌, ◌<◌, ℕ, All, Some, length, get_or, sym, subst, arith, slice_get, slice_get-get_or, slice_get_within, ClaimData, Exchange, Fits, IsAmong}
use Rattle.audit.proofs.Opposition.{renumbered, still_fits}
use Rattle.audit.proofs.laws.claims_shown_by_covers_are_not_contested.Goals as goal

pub returns : goal.returns
returns c text bytes shown contested =
    let s = shown.said in
    let t = contested.said in
    let xs = shown.exchanges in
    let claim_same = c.texts_say_one_claim.ensures text shown.claim contested.claim s.claim_is t.claim_is in
    let (_, unit_same, frames_same) = c.captures_say_one_list_of_frames.ensures bytes s.order t.order s.unit t.unit
    s.frames t.frames s.capture_is t.capture_is in
    let among : (k : ℕ) (x : Exchange) → slice_get xs k ≡ Some x → IsAmong contested.exchanges x =
    λ k x at. contested.none_is_missing x (rw (claim_same, unit_same, frames_same) at (s.exchanges_are k x at)) in
    let beyond = contested.beyond in
    let course = renumbered xs contested.exchanges among beyond.course in
    let fits = still_fits xs contested.exchanges among contested.claim beyond.course beyond.fits.fits in
    let fits_shown = subst (λ (claim : ClaimData). Fits claim xs course) (sym claim_same) fits in
    let listed : All (λ (x : Exchange). x.server < length shown.claim.groups) xs = λ k d below.
    let x = get_or xs k d in
    let is = s.exchanges_are k x (slice_get-get_or xs k d below) in
    let inside = slice_get_within shown.claim.servers x.server is.packet.datagram.source is.of_server.from_server in
    let each = s.claim_is.each_in_a_group in
    omega (arith, inside, each) in
    let named = c.capture_fits_what_is_named.ensures shown.claim xs shown.certificate course s.in_limits.grants.1
    listed fits_shown in
    let within = shown.within course named (rw claim_same beyond.in_span) in
    let above = rw (← claim_same) at contested.beyond_nanoseconds in
    absurd (omega (arith, within, above))
