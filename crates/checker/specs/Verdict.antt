-- The verdict on a certificate: the first test that fails, piece by piece.
--
-- A certificate cuts the span of a claim into pieces. The first begins where the span does, each
-- other one where the piece before it ends. In a piece each entry names the sample for the low end
-- and the one for the high end of one server's interval. The hull over the groups of servers has to
-- lie inside the bound, and the last piece has to end where the span does.
use Rattle.std.specs.Prelude.{◌≡◌, ℕ, ◌+◌, ◌<◌, ◌==◌, ℤ, pos, int_lt, not, ◌||◌, ◌&&◌, nat_lt, if◌then◌else◌, List, [], ◌∷◌, ◌++◌, slice_get, Option, Some, None, Result, Ok, Err}
use Rattle.checker.specs.Common.{list_any, int_eq, PieceData, CertificateData, ClaimData, Hull, Sample, is_inside, piece_hull, part_of, Part, Stretch}
use Rattle.intersection.specs.declared.kinds.Hull.TheVariants as hull
use Rattle.checker.specs.Stretch.{begin_of}
use Rattle.checker.specs.declared.verdict.Verdict.{Verdict}
use Rattle.checker.specs.declared.verdict.Verdict.TheVariants.{Yes, No}
use Rattle.checker.specs.declared.verdict.Why.{Why}
use Rattle.checker.specs.declared.verdict.Why.TheVariants.{Cut, BadSample, MixedServers, RepeatedServer, Unbounded, Contradiction, Exceeds, Uncovered}

abbrev pub why_number : Why → ℕ
why_number Cut = 1
why_number BadSample = 2
why_number MixedServers = 3
why_number RepeatedServer = 4
why_number Unbounded = 5
why_number Contradiction = 6
why_number Exceeds = 7
why_number Uncovered = 8

-- what an entry says that names these two samples, after others of its piece
abbrev pub part_from : Stretch → ℕ → List Part → Option Sample → Option Sample → Result Part Why
part_from stretch ppb earlier None high = Err BadSample
part_from stretch ppb earlier (Some low) None = Err BadSample
part_from stretch ppb earlier (Some low) (Some high) =
    if not (low.server == high.server) then Err MixedServers else
    if list_any (λ part. part.server == low.server) earlier then Err RepeatedServer else
    Ok (part_of low high stretch ppb)

-- what follows if an entry isn't refused
abbrev pub unless_refused :
    Result Part Why → (Part → Result (List Part) Why) → Result (List Part) Why
unless_refused (Err why) next = Err why
unless_refused (Ok part) next = next part

-- what the entries of a piece say, in their order, after others that said these; or the first
-- reason to refuse one
abbrev pub parts_after :
    List Sample → Stretch → ℕ → List Part → List (ℕ × ℕ) → Result (List Part) Why
parts_after samples stretch ppb earlier [] = Ok earlier
parts_after samples stretch ppb earlier (entry ∷ entries) =
    unless_refused
    (part_from stretch ppb earlier (slice_get samples entry.0) (slice_get samples entry.1))
    (λ part. parts_after samples stretch ppb (earlier ++ part ∷ []) entries)

-- why a hull doesn't show that the error is within a bound
abbrev pub hull_fault : ℤ → Hull → Option Why
hull_fault bound hull.Unbounded = Some Unbounded
hull_fault bound hull.Empty = Some Contradiction
hull_fault bound (hull.Bounded lo hi) =
    if is_inside bound (hull.Bounded lo hi) then None else Some Exceeds

-- why what the entries of a piece say doesn't show it
abbrev pub parts_fault : ClaimData → Result (List Part) Why → Option Why
parts_fault claim (Err why) = Some why
parts_fault claim (Ok parts) =
    hull_fault claim.bound (piece_hull claim.groups claim.false_max parts)

-- the first test that fails in a piece that begins here
abbrev pub piece_fault : List Sample → ClaimData → ℤ → PieceData → Option Why
piece_fault samples claim begin piece =
    let stretch : Stretch = record { begin = begin; end = pos piece.upto } in
    if int_lt stretch.end begin || int_lt claim.last stretch.end then Some Cut else
    parts_fault claim (parts_after samples stretch claim.drift_ppb [] piece.entries)

-- No with the reason of a piece, if it has one, otherwise the verdict on the rest
abbrev pub verdict_after : Option Why → ℕ → Verdict → Verdict
verdict_after None k rest = rest
verdict_after (Some why) k rest = No k why

-- the verdict on the pieces from number k on, of which the first begins here
abbrev pub verdict_from : List Sample → ClaimData → ℕ → ℤ → List PieceData → Verdict
verdict_from samples claim k begin [] =
    if nat_lt 0 k && int_eq begin claim.last then Yes else No k Uncovered
verdict_from samples claim k begin (piece ∷ pieces) =
    verdict_after (piece_fault samples claim begin piece) k
    (verdict_from samples claim (k + 1) (pos piece.upto) pieces)

-- the verdict
abbrev pub verdict_of : List Sample → ClaimData → CertificateData → Verdict
verdict_of samples claim certificate = verdict_from samples claim 0 claim.first certificate.pieces

-- none of the first n pieces fails a test
abbrev pub PassBelow : List Sample → ClaimData → CertificateData → ℕ → Type 0
PassBelow samples claim certificate n =
    (k : ℕ) (piece : PieceData) → k < n → slice_get certificate.pieces k ≡ Some piece
    → piece_fault samples claim (begin_of claim.first certificate.pieces k) piece ≡ None
