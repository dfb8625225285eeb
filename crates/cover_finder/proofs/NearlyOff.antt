-- Where the hull of a case isn't inside the bound over a tick of the span or less, some course that fits is nearly off.
use Rattle.std.proofs.Common.{◌≡◌, ℕ, ◌-◌, ◌*◌, ◌≤◌, ℤ, pos, neg_ℤ, ◌+ℤ◌, ◌-ℤ◌, ◌*ℤ◌, ◌<ℤ◌, ◌≤ℤ◌, unsigned_abs, false, ◌⊎◌, ⊎_elim, List, length, refl, arith}
use Rattle.std.proofs.Math.Nat.{mul-le-mul_left}
use Rattle.std.proofs.lemmas.Bool.Decides.{nat_tests}
use Rattle.std.proofs.lemmas.Int.{clamps, ints}
use Rattle.std.proofs.lemmas.List.Sums.{count_by-le-length}
use Rattle.std.specs.Prelude.{All}
use Rattle.claim_file.specs.Claim.{IsLawful}
use Rattle.era_unfold.proofs.Rounding.{IsCeiling-ceiling_of}
use Rattle.feasibility.specs.Cover.{HoldsNoLess}
use Rattle.intersection.specs.Fineness.{times-add, times_le}
use Rattle.intersection.specs.Hull.{IsAdmissible, IsHull}
use Rattle.intersection.specs.Interval.{leaves_out}
use Rattle.intersection.specs.declared.kinds.Interval.{Interval}
use Rattle.lemma_base.proofs.Int.{≤ℤ_trans}
use Rattle.sample_interval.specs.Widening.{IsRate, billion, widening}
use Rattle.span_cover.specs.Group.{group_intervals}
use Rattle.cover_finder.specs.Common.{Bounded, ClaimData, Course, Empty, Exchange, Hull, IsLawful as IsLawfulExchange, IsObservedIn, Stretch, Unbounded, error_of, holds, is_inside, size_of}
use Rattle.cover_finder.specs.Hull.{IsObservedFirst, change_over}
use Rattle.cover_finder.specs.Open.{IsNearlyOff}
use Rattle.cover_finder.proofs.CaseEnds.{hold_outside}
use Rattle.cover_finder.proofs.HeldErrors.{HullsHold, is_hull}
use Rattle.cover_finder.proofs.NearCourses.{near_high, near_low}
use Rattle.cover_finder.proofs.NearEnds.{IsHeld, IsOfCase, high_held, low_held}
use Rattle.cover_finder.proofs.NearlyOffEmpty.{none_is_empty}

-- ---- over plain numbers

-- while the clock advances by a tick or less, the error changes by a tick at most
changes_little : (ppb d : ℕ) → IsRate ppb → d ≤ 1 → widening ppb d ≤ 1
unfolding widening
changes_little ppb d rate most =
    (IsCeiling-ceiling_of (ppb * d) (billion - ppb) (omega arith)).least 1 (omega (arith, mul-le-mul_left ppb most))

module _ (bound point change error : ℤ) (n : ℕ) (little : change ≤ℤ pos 1) where
  -- near to a point above the bound
  off_above : bound <ℤ point → (((point -ℤ pos 1) -ℤ change) *ℤ pos n) ≤ℤ error
      → ((bound -ℤ pos 1) *ℤ pos n) ≤ℤ pos (unsigned_abs error)
  off_above above near =
      omega (arith, ints, times_le (bound -ℤ pos 1) ((point -ℤ pos 1) -ℤ change) n (omega (arith, ints)))

  -- or to one below it on the other side
  off_below : point <ℤ neg_ℤ bound → error <ℤ (((point +ℤ pos 1) +ℤ change) *ℤ pos n)
      → ((bound -ℤ pos 1) *ℤ pos n) ≤ℤ pos (unsigned_abs error)
  off_below below near =
      omega (
        arith,
        ints,
        times_le ((point +ℤ pos 1) +ℤ change) (pos 1 -ℤ bound) n (omega (arith, ints)),
        times-add (pos 0) (bound -ℤ pos 1) (pos 1 -ℤ bound) n (omega (arith, ints)),
      )

-- a hull that has two ends and isn't inside has one of them beyond
one_beyond : (bound lo hi : ℤ) → is_inside bound (Bounded lo hi) ≡ false → (lo <ℤ neg_ℤ bound) ⊎ (bound <ℤ hi)
one_beyond bound lo hi isnt = grind (arith, ints, nat_tests)

-- if all may leave a point out, every point is admissible
any_admissible : (list : List Interval) (few : ℕ) (point : ℤ) → length list ≤ few → IsAdmissible list few point
any_admissible list few point all = omega (arith, count_by-le-length (λ interval. leaves_out interval point) list)

-- ---- a stretch

-- a tick of the span, or less
pub record IsShort (claim : ClaimData) (stretch : Stretch) : Type 0 where
  pub from_first : claim.first ≤ℤ stretch.begin
  pub forth : stretch.begin ≤ℤ stretch.end
  pub to_last : stretch.end ≤ℤ claim.last
  pub short : stretch.end ≤ℤ (stretch.begin +ℤ pos 1)

module _ (claim : ClaimData) (xs : List Exchange) (stretch : Stretch) (lawful : IsLawful claim)
    (each : All (IsLawfulExchange (length claim.servers)) xs) (is : IsShort claim stretch) where
  little : change_over claim.drift_ppb stretch ≤ℤ pos 1
  little =
      let short = is.short in
      let long : unsigned_abs (stretch.end -ℤ stretch.begin) ≤ 1 = omega (arith, ints, clamps) in
      let change = changes_little claim.drift_ppb (unsigned_abs (stretch.end -ℤ stretch.begin)) lawful.drift_in_range
      long in
      omega (arith, ints)

  in_span : (course : Course) → IsObservedFirst claim xs stretch course → IsObservedIn course claim.first claim.last
  in_span course first =
      rw first.first (
        times_le claim.first stretch.begin course.fineness is.from_first,
        times_le stretch.begin claim.last course.fineness
            (≤ℤ_trans stretch.begin stretch.end claim.last is.forth is.to_last),
      )

  -- a point that the others hold lies above the bound
  nearly_above : (point : ℤ) → IsHeld claim xs stretch point → claim.bound <ℤ point → IsNearlyOff claim xs
  nearly_above point held above =
      let near = near_high claim xs stretch lawful each is.forth point held.0 held.1 in
      record {
        course = near.0;
        fits = near.1.fits;
        observed = in_span near.0 near.1;
        off = off_above claim.bound point (change_over claim.drift_ppb stretch) (error_of (near.0).observation)
            (near.0).fineness little above near.2;
      }

  -- or below it on the other side
  nearly_below : (point : ℤ) → IsHeld claim xs stretch point → point <ℤ neg_ℤ claim.bound → IsNearlyOff claim xs
  nearly_below point held below =
      let near = near_low claim xs stretch lawful each is.forth point held.0 held.1 in
      record {
        course = near.0;
        fits = near.1.fits;
        observed = in_span near.0 near.1;
        off = off_below claim.bound point (change_over claim.drift_ppb stretch) (error_of (near.0).observation)
            (near.0).fineness little below near.2;
      }

  -- where as many may be wrong as say something, every point is held
  held_anywhere : IsOfCase claim xs stretch Unbounded → (point : ℤ) → IsHeld claim xs stretch point
  held_anywhere case point =
      let all : IsHull (group_intervals claim.groups case.without.parts)
      (claim.false_max - size_of claim (holds case.out)) Unbounded =
      is_hull claim xs stretch (holds case.out) Unbounded case.without in (
        _,
        hold_outside claim xs stretch (holds case.out) case.without.parts case.without.whole point case.cover
            case.small (any_admissible (group_intervals claim.groups case.without.parts)
            (claim.false_max - size_of claim (holds case.out)) point all),
      )

  pub nearly_off : HullsHold → (hull : Hull) (case : IsOfCase claim xs stretch hull)
      → HoldsNoLess claim xs (holds case.out) → is_inside claim.bound hull ≡ false → IsNearlyOff claim xs
  nearly_off hold Unbounded case minimal isnt =
      nearly_above (claim.bound +ℤ pos 1) (held_anywhere case (claim.bound +ℤ pos 1)) (omega (arith, ints))
  nearly_off hold Empty case minimal isnt =
      absurd (none_is_empty claim xs stretch lawful each is.forth (holds case.out) case.cover minimal case.small hold
      case.without)
  nearly_off hold (Bounded lo hi) case minimal isnt = ⊎_elim
      (λ below. nearly_below lo (low_held claim xs stretch (Bounded lo hi) case lo hi refl) below)
      (λ above. nearly_above hi (high_held claim xs stretch (Bounded lo hi) case lo hi refl) above)
      (one_beyond claim.bound lo hi isnt)
