-- Why a yes can be relied on: from the hulls of the pieces to the bound on the error over the span.
use Rattle.checker.proofs.Common.{◌≡◌, ℕ, ◌*◌, ◌≤◌, ℤ, pos, neg_ℤ, ◌*ℤ◌, ◌≤ℤ◌, unsigned_abs, List, Option, Some, None, inl, refl, sym, subst, arith, slice_get, IsSomeAnd, ints, ticks_per_second, CertificateData, ClaimData, IsLawful, times_le, Hull, Unbounded, Empty, Bounded, error_of, Sample, AreSaidBy, Course, piece_hull, AreSamplesOf, begin_of, last_end, stretch_of, stretches_of, IsObservedIn, IsWithin, IsWithinNanoseconds, IsInHull, IsTraceable, IsTraceableByPieces, IsContradicted, HoldsErrorOfPiece, HasHull, IsOfHull, IsRefusedByHull, hull_fault, verdict_of, Part, Stretch, Yes, No, Why, Contradiction, times-add, nat_tests}
use Rattle.checker.proofs.PieceFit.{fits_piece}
use Rattle.std.proofs.Math.Nat.{mul-le-mul_right}
use Rattle.era_unfold.specs.Nanoseconds.{nanoseconds_per_second, ticks_down}
use Rattle.checker.proofs.Cover.{all_covered, piece_at, stretch_of_piece}
use Rattle.checker.proofs.PieceVerdict.{each_passes}
use Rattle.checker.proofs.EntryStatement.{said_from}
use Rattle.checker.proofs.VerdictPieces.{HullGives, empty_hull, inside_from, from_hull, tested, yes_end, no_at}

-- ---- bounds

-- between n times -bound and n times bound
inside : (bound : ℤ) (n : ℕ) (lo hi e : ℤ) → (lo *ℤ pos n) ≤ℤ e → e ≤ℤ (hi *ℤ pos n) → neg_ℤ bound ≤ℤ lo
    → hi ≤ℤ bound → pos (unsigned_abs e) ≤ℤ (bound *ℤ pos n)
inside bound n lo hi e from to above below =
    omega (
      arith,
      ints,
      times_le (neg_ℤ bound) lo n above,
      times_le hi bound n below,
      times-add (pos 0) bound (neg_ℤ
          bound) n (omega (arith, ints)),
    )

-- ---- verdicts

-- the law on the hull of what entries say
abbrev pub HullLaw : Type 0
HullLaw = (claim : ClaimData) (samples : List Sample) (stretch : Stretch) (entries : List (ℕ × ℕ)) (parts : List Part)
    → IsLawful claim → AreSamplesOf claim samples → AreSaidBy samples stretch claim.drift_ppb entries parts
    → HoldsErrorOfPiece claim samples entries stretch (piece_hull claim.groups claim.false_max parts)

module _ (hulls : HullLaw) (claim : ClaimData) (samples : List Sample) (certificate : CertificateData)
    (lawful : IsLawful claim) (are : AreSamplesOf claim samples) where
  -- what the hull of a piece is that was tested holds the error
  tested_holds : (stretch : Stretch) (entries : List (ℕ × ℕ)) (fault : Option Why)
      (found : HullGives samples claim stretch entries fault)
      → HoldsErrorOfPiece claim samples entries stretch (piece_hull claim.groups claim.false_max found.parts)
  tested_holds stretch entries fault found =
      hulls claim samples stretch entries found.parts lawful are
      (said_from samples stretch claim.drift_ppb entries found.parts found.said).0

  within_hull : (course : Course) (hull : Hull) → hull_fault claim.bound hull ≡ None → IsInHull course hull
      → IsWithin course claim.bound
  within_hull course Unbounded e holds = absurd cc
  within_hull course Empty e holds = absurd cc
  within_hull course (Bounded lo hi) e holds =
      let ends = inside_from claim.bound lo hi e in
      inside claim.bound course.fineness lo hi (error_of course.observation) holds.0 holds.1 ends.0 ends.1

  pub traceable_by_pieces : verdict_of samples claim certificate ≡ Yes
      → IsTraceableByPieces claim samples certificate
  traceable_by_pieces e xs k piece course made at fits observed =
      let passes = each_passes samples claim 0 claim.first certificate.pieces e k piece at in
      let found = (tested samples claim (begin_of claim.first certificate.pieces k) piece None tt passes).1 in
      within_hull course (piece_hull claim.groups claim.false_max found.parts) found.gives
      (tested_holds (stretch_of claim certificate k piece) piece.entries None found xs course made fits observed)

  pub refused_by_hull : (k : ℕ) (why : Why) → verdict_of samples claim certificate ≡ No k why → IsOfHull why
      → IsRefusedByHull claim samples certificate k why
  refused_by_hull k why e of_hull =
      let from = from_hull why of_hull in
      let found = no_at samples claim 0 k claim.first certificate.pieces why from e in
      let place : found.place ≡ k = omega (arith, found.counted) in
      let begin = begin_of claim.first certificate.pieces found.place in
      let given = (tested samples claim begin found.piece (Some why) from found.fails).1 in
      let hull = piece_hull claim.groups claim.false_max given.parts in (
        hull,
        given.gives,
        subst (λ (n : ℕ). HasHull claim samples certificate n hull) place
            (record {
              piece = found.piece;
              stands = found.stands;
              parts = given.parts;
              said = given.said;
              is_theirs = refl;
              holds = tested_holds (stretch_of claim certificate found.place found.piece) found.piece.entries
                  (Some why) given;
            }),
      )

  pub traceable : verdict_of samples claim certificate ≡ Yes → IsTraceable claim samples
  traceable e xs course made fits observed =
      let ends = yes_end samples claim 0 claim.first certificate.pieces e in
      let in_pieces : IsObservedIn course claim.first (last_end claim.first certificate.pieces) =
      subst (λ (z : ℤ). IsObservedIn course claim.first z) (sym ends.1) observed in
      let covered = all_covered course.fineness course.observation.reading claim.first certificate.pieces
      (omega (arith, ends.0)) in_pieces in
      let found = piece_at (λ stretch. IsObservedIn course stretch.begin stretch.end) claim.first certificate.pieces
      covered.0 covered.1 in
      traceable_by_pieces e xs covered.0 found.0 course made found.1 (fits_piece claim xs found.0.entries course fits)
      found.2

  pub contradiction : (k : ℕ) → verdict_of samples claim certificate ≡ No k Contradiction
      → IsSomeAnd (slice_get (stretches_of claim certificate) k) (IsContradicted claim samples)
  contradiction k e =
      let found = refused_by_hull k Contradiction e (inl refl) in
      let at = found.2 in
      let empty : found.0 ≡ Empty = empty_hull claim.bound found.0 found.1 in
      let stretch = stretch_of claim certificate k at.piece in
      subst (λ (o : Option Stretch). IsSomeAnd o (IsContradicted claim samples))
      (sym (stretch_of_piece claim.first certificate.pieces k at.piece at.stands))
      (λ xs course made fits observed.
      subst (λ (h : Hull). IsInHull course h) empty
      (at.holds xs course made (fits_piece claim xs at.piece.entries course fits) observed))

-- ---- nanoseconds

ns_at : (b e n ns : ℕ) → b * nanoseconds_per_second ≤ ns * ticks_per_second → e ≤ b * n
    → nanoseconds_per_second * e ≤ n * (ns * ticks_per_second)
ns_at b e n ns down within = omega (arith, mul-le-mul_right n down)

pub in_nanoseconds : (course : Course) (bound : ℤ) (bound_ns : ℕ) → bound ≡ pos (ticks_down bound_ns)
    → ticks_down bound_ns * nanoseconds_per_second ≤ bound_ns * ticks_per_second → IsWithin course bound
    → IsWithinNanoseconds course bound_ns
in_nanoseconds course bound bound_ns is down within = grind (arith, ints, nat_tests, ns_at)
