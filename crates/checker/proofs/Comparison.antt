-- How verdicts compare if fewer points are admissible.
use Rattle.checker.proofs.Common.{◌≡◌, ℕ, ◌+◌, ◌<◌, ◌≤◌, ℤ, pos, ◌≤ℤ◌, ◌⊎◌, inl, inr, ⊎_elim, List, [], ◌∷◌, length, Option, Some, None, Result, Ok, Err, refl, subst, arith, AllZip, ints, PieceData, CertificateData, ClaimData, IsAdmissible, IsHull, hull_of, Interval, Hull, Unbounded, Empty, Bounded, Sample, IsYesOr, IsContradiction, parts_after, hull_fault, parts_fault, piece_fault, verdict_after, verdict_from, verdict_of, Part, Stretch, Verdict, Yes, Why, Contradiction, ◌++◌, rules, nat_tests}
use Rattle.checker.proofs.VerdictPieces.{yes_step}

-- no fault, or such a one
abbrev pub FaultIs : (Why → Type 0) → Option Why → Type 0
FaultIs P fault = (fault ≡ None) ⊎ ((why : Why) × (fault ≡ Some why) × P why)

-- ---- verdicts, piece by piece

module _ (samples : List Sample) (claim other : ClaimData) (P : Why → Type 0) where
  -- if a piece shows that the error is within the bound, so does another one, or that one fails for such a reason
  pub record Follows (piece next : PieceData) : Type 0 where
    pub upto : piece.upto ≡ next.upto
    pub fault : (begin : ℤ) → piece_fault samples claim begin piece ≡ None
        → FaultIs P (piece_fault samples other begin next)

  pub fails_here : (k : ℕ) (fault : Option Why) (rest : Verdict) → FaultIs P fault
      → IsYesOr P rest → IsYesOr P (verdict_after fault k rest)
  fails_here k fault rest is later = grind (arith, ints, nat_tests)

  pub verdict_follows : claim.last ≡ other.last → (k : ℕ) (begin : ℤ) (pieces next : List PieceData)
      → AllZip Follows pieces next → verdict_from samples claim k begin pieces ≡ Yes
      → IsYesOr P (verdict_from samples other k begin next)
  verdict_follows last k begin [] [] zip e = grind (arith, ints, nat_tests)
  verdict_follows last k begin [] (q ∷ next) zip e = absurd zip
  verdict_follows last k begin (p ∷ pieces) [] zip e = absurd zip
  verdict_follows last k begin (p ∷ pieces) (q ∷ next) zip e =
      let step = yes_step samples claim k (piece_fault samples claim begin p) _ e in
      let rest = verdict_follows last (k + 1) (pos p.upto) pieces next zip.1 step.1 in
      let rest' : IsYesOr P (verdict_from samples other (k + 1) (pos q.upto) next) =
      subst (λ (n : ℕ). IsYesOr P (verdict_from samples other (k + 1) (pos n) next)) zip.0.upto rest in
      fails_here k (piece_fault samples other begin q) _ (zip.0.fault begin step.0) rest'

  pub all_follow : ((piece : PieceData) → Follows piece piece) → (pieces : List PieceData)
      → AllZip Follows pieces pieces
  all_follow each [] = tt
  all_follow each (p ∷ pieces) = (each p, all_follow each pieces)

  pub piece_follows : claim.last ≡ other.last → (piece next : PieceData) → piece.upto ≡ next.upto
      → ((stretch : Stretch)
      → parts_fault claim (parts_after samples stretch claim.drift_ppb [] piece.entries) ≡ None
      → FaultIs P (parts_fault other (parts_after samples stretch other.drift_ppb [] next.entries)))
      → Follows piece next
  piece_follows last piece next upto says = search rules

-- ---- one piece in another's place

module _ (samples : List Sample) (claim : ClaimData) (P : Why → Type 0) where
  zip_changed : (before : List PieceData) (piece next : PieceData) (after : List PieceData)
      → Follows samples claim claim P piece next
      → AllZip (Follows samples claim claim P) (before ++ piece ∷ after) (before ++ next ∷ after)
  zip_changed [] piece next after follows =
      (follows, all_follow samples claim claim P (λ p. record { upto = refl; fault = λ begin e. inl e }) after)
  zip_changed (first ∷ before) piece next after follows =
      (record { upto = refl; fault = λ begin e. inl e }, zip_changed before piece next after follows)

  pub one_changed : (before : List PieceData) (piece next : PieceData) (after : List PieceData)
      → piece.upto ≡ next.upto
      → ((stretch : Stretch)
      → parts_fault claim (parts_after samples stretch claim.drift_ppb [] piece.entries) ≡ None
      → FaultIs P (parts_fault claim (parts_after samples stretch claim.drift_ppb [] next.entries)))
      → verdict_from samples claim 0 claim.first (before ++ piece ∷ after) ≡ Yes
      → IsYesOr P (verdict_from samples claim 0 claim.first (before ++ next ∷ after))
  one_changed before piece next after upto says =
      verdict_follows samples claim claim P refl 0 claim.first (before ++ piece ∷ after) (before ++ next ∷ after)
      (zip_changed before piece next after (piece_follows samples claim claim P refl piece next upto says))

-- ---- hulls

-- the law of the layer below: every list has its hull
abbrev pub EveryHull : Type 0
EveryHull = (list : List Interval) (f : ℕ) → IsHull list f (hull_of list f)

module _ (hulls : EveryHull) (bound wider : ℤ) (list other : List Interval) (f g : ℕ) (no_less : bound ≤ℤ wider)
    (fewer : (point : ℤ) → IsAdmissible other g point → IsAdmissible list f point)
    (longer : f < length list → g < length other) where
  nested_hull : (hull next : Hull) → IsHull list f hull → IsHull other g next → hull_fault bound hull ≡ None
      → FaultIs IsContradiction (hull_fault wider next)
  nested_hull Unbounded next is is' e = absurd cc
  nested_hull Empty next is is' e = absurd cc
  nested_hull (Bounded lo hi) Unbounded is is' e = absurd (let more = longer is.0 in omega arith)
  nested_hull (Bounded lo hi) Empty is is' e = inr (Contradiction, refl, refl)
  nested_hull (Bounded lo hi) (Bounded lo' hi') is is' e =
      grind (
        arith,
        ints,
        is.1.1 lo' (fewer lo' is'.1.0),
        is.2.1 hi' (fewer hi'
            is'.2.0),
      )

  pub hull_follows : hull_fault bound (hull_of list f) ≡ None
      → FaultIs IsContradiction (hull_fault wider (hull_of other g))
  hull_follows e = nested_hull (hull_of list f) (hull_of other g) (hulls list f) (hulls other g) e

-- ---- a wider bound, and fewer false groups

parts_narrow : (hulls : EveryHull) (claim other : ClaimData) (said : Result (List Part) Why)
    → claim.bound ≤ℤ other.bound → claim.groups ≡ other.groups → other.false_max ≤ claim.false_max
    → parts_fault claim said ≡ None
    → FaultIs IsContradiction (parts_fault other said)
parts_narrow hulls claim other (Err why) bound groups few e = absurd cc
parts_narrow hulls claim other (Ok parts) bound groups few e = grind (arith, ints, nat_tests, hull_follows)

pub fewer_false : (hulls : EveryHull) (samples : List Sample) (claim : ClaimData) (g : ℕ)
    (certificate : CertificateData) → g ≤ claim.false_max → verdict_of samples claim certificate ≡ Yes
    → IsYesOr IsContradiction (verdict_of samples (record claim { false_max = g }) certificate)
fewer_false hulls samples claim g certificate few e =
    let other : ClaimData = record claim { false_max = g } in
    verdict_follows samples claim other IsContradiction refl 0 claim.first certificate.pieces certificate.pieces
    (all_follow samples claim other IsContradiction
    (λ piece. piece_follows samples claim other IsContradiction refl piece piece refl
    (λ stretch passes. parts_narrow hulls claim other _ (omega (arith, ints)) refl few passes))
    certificate.pieces)
    e

wider_parts : (claim : ClaimData) (wider : ℤ) (said : Result (List Part) Why) → claim.bound ≤ℤ wider
    → parts_fault claim said ≡ None → parts_fault (record claim { bound = wider }) said ≡ None
wider_parts claim wider (Err why) le e = absurd cc
wider_parts claim wider (Ok parts) le e = search rules

pub wider_bound : (samples : List Sample) (claim : ClaimData) (wider : ℤ) (certificate : CertificateData)
    → claim.bound ≤ℤ wider → verdict_of samples claim certificate ≡ Yes
    → verdict_of samples (record claim { bound = wider }) certificate ≡ Yes
wider_bound samples claim wider certificate le e =
    let other : ClaimData = record claim { bound = wider } in
    let never : Why → Type 0 = λ why. ⊥ in
    ⊎_elim (λ is. is) (λ found. absurd found.3)
    (verdict_follows samples claim other never refl 0 claim.first certificate.pieces certificate.pieces
    (all_follow samples claim other never
    (λ piece. piece_follows samples claim other never refl piece piece refl
    (λ stretch passes. inl (wider_parts claim wider _ le passes)))
    certificate.pieces)
    e)
