-- Hulls by covers.
use Rattle.std.proofs.Common.{◌≡◌, ◌+◌, ◌<◌, ◌≤ℤ◌, ◌*ℤ◌, ℕ, ℤ, pos, List, [], ◌∷◌, ◌++◌, length, take, get_or, All, arith, ap, inl, inr, refl, subst, sym, ⊎_elim, ◌∙◌, Some}
use Rattle.std.proofs.lemmas.Int.{ints, clamps}
use Rattle.std.proofs.lemmas.List.Elements.{All-head, All-tail}
use Rattle.std.proofs.lemmas.List.{length-append, take_more}
use Rattle.std.proofs.lemmas.List.Sums.{fold-append}
use Rattle.std.specs.List.{slice_get}
use Rattle.std.specs.Int.{int_max, int_min}
use Rattle.intersection.specs.Fineness.{times_le}
use Rattle.cover_finder.specs.Common.{Bounded, ClaimData, Course, Empty, Exchange, Fits, Groups, HasFalse, HoldsErrorOf, HoldsOne, Hull, IsInHull, IsObservedIn, Stretch, Unbounded, holds, holds_false}
use Rattle.cover_finder.specs.Hull.{HoldsError, IsHullOf, IsHullWithout, join_of}
use Rattle.cover_finder.proofs.List.{pushed_at}

-- ---- the least hull that holds two

lower : (n : ℕ) (lo low e : ℤ) → (lo *ℤ pos n) ≤ℤ e → (int_min lo low *ℤ pos n) ≤ℤ e
lower n lo low e from = omega (arith, ints, times_le (int_min lo low) lo n (omega (arith, ints, clamps)))

higher : (n : ℕ) (hi high e : ℤ) → e ≤ℤ (hi *ℤ pos n) → e ≤ℤ (int_max hi high *ℤ pos n)
higher n hi high e to = omega (arith, ints, times_le hi (int_max hi high) n (omega (arith, ints, clamps)))

lower' : (n : ℕ) (lo low e : ℤ) → (low *ℤ pos n) ≤ℤ e → (int_min lo low *ℤ pos n) ≤ℤ e
lower' n lo low e from = omega (arith, ints, times_le (int_min lo low) low n (omega (arith, ints, clamps)))

higher' : (n : ℕ) (hi high e : ℤ) → e ≤ℤ (high *ℤ pos n) → e ≤ℤ (int_max hi high *ℤ pos n)
higher' n hi high e to = omega (arith, ints, times_le high (int_max hi high) n (omega (arith, ints, clamps)))

pub join_first : (course : Course) (a b : Hull) → IsInHull course a → IsInHull course (join_of a b)
join_first course Unbounded b held = tt
join_first course Empty b held = absurd held
join_first course (Bounded lo hi) Unbounded held = tt
join_first course (Bounded lo hi) Empty held = held
join_first course (Bounded lo hi) (Bounded low high) held =
    (lower course.fineness lo low _ held.0, higher course.fineness hi high _ held.1)

pub join_second : (course : Course) (a b : Hull) → IsInHull course b → IsInHull course (join_of a b)
join_second course Unbounded b held = tt
join_second course Empty b held = held
join_second course (Bounded lo hi) Unbounded held = held
join_second course (Bounded lo hi) Empty held = absurd held
join_second course (Bounded lo hi) (Bounded low high) held =
    (lower' course.fineness lo low _ held.0, higher' course.fineness hi high _ held.1)

-- ---- the hulls of cases

module _ (claim : ClaimData) (xs : List Exchange) (stretch : Stretch) where
  -- the hull holds the error where all groups of a set hold a false server each
  abbrev pub Holds : Hull → Groups → Type 0
  Holds hull out = HoldsErrorOf claim xs stretch (HasFalse claim (holds out)) hull

  pub no_hulls : IsHullOf claim xs stretch [] Empty
  no_hulls = record {
    hulls = [];
    same_number = refl;
    each = λ k out one at_out at_one. absurd cc;
    joined = refl;
  }

  module _ (before : List Groups) (hull : Hull) (is : IsHullOf claim xs stretch before hull) (out : Groups)
      (more : Hull) (own : IsHullWithout claim xs stretch (holds out) more) where
    each_more : (k : ℕ) (o : Groups) (h : Hull) → slice_get (before ++ out ∷ []) k ≡ Some o
        → slice_get (is.hulls ++ more ∷ []) k ≡ Some h → IsHullWithout claim xs stretch (holds o) h
    each_more k o h at_o at_h = ⊎_elim
        (λ old_o. ⊎_elim
        (λ old_h. is.each k o h old_o.1 old_h.1)
        (λ new_h. absurd (omega (arith, old_o.0, new_h.0, is.same_number)))
        (pushed_at is.hulls more k h at_h))
        (λ new_o. ⊎_elim
        (λ old_h. absurd (omega (arith, new_o.0, old_h.0, is.same_number)))
        (λ new_h. subst (λ (g : Groups). IsHullWithout claim xs stretch (holds g) h) new_o.1
        (subst (λ (g : Hull). IsHullWithout claim xs stretch (holds out) g) new_h.1 own))
        (pushed_at is.hulls more k h at_h))
        (pushed_at before out k o at_o)

    hulls_more : IsHullOf claim xs stretch (before ++ out ∷ []) (join_of hull more)
    hulls_more = record {
      hulls = is.hulls ++ more ∷ [];
      same_number = omega (
        arith,
        is.same_number,
        length-append is.hulls (more ∷ []),
        length-append before (out ∷ []),
      );
      each = each_more;
      joined = ap (λ (h : Hull). join_of h more) is.joined ∙ sym (fold-append join_of Empty is.hulls (more ∷ []));
    }

  pub hull_of_more : (cases : List Groups) (k : ℕ) (d : Groups) (hull more : Hull) → k < length cases
      → IsHullOf claim xs stretch (take k cases) hull → IsHullWithout claim xs stretch (holds (get_or cases k d)) more
      → IsHullOf claim xs stretch (take (k + 1) cases) (join_of hull more)
  hull_of_more cases k d hull more below is own =
      subst (λ (cs : List Groups). IsHullOf claim xs stretch cs (join_of hull more)) (sym (take_more cases k d below))
      (hulls_more (take k cases) hull is (get_or cases k d) more own)

  -- each course that fits has a false server in all groups of one of these sets
  abbrev pub AreCases : List Groups → Type 0
  AreCases cases = (course : Course) → Fits claim xs course → HoldsOne cases (holds_false claim.groups course.is_false)

  -- where a course has a false server in all groups of one, it holds the error in it
  of_one : (hull : Hull) (cases : List Groups) → All (Holds hull) cases → (course : Course) → Fits claim xs course
      → HoldsOne cases (holds_false claim.groups course.is_false)
      → IsObservedIn course stretch.begin stretch.end → IsInHull course hull
  of_one hull [] all course fits one observed = absurd one
  of_one hull (out ∷ cases) all course fits (inl here) observed =
      All-head (Holds hull) out cases all course fits here observed
  of_one hull (out ∷ cases) all course fits (inr later) observed =
      of_one hull cases (All-tail (Holds hull) out cases all) course fits later observed

  pub of_cases : (hull : Hull) (cases : List Groups) → All (Holds hull) cases → AreCases cases
      → HoldsError claim xs stretch hull
  of_cases hull cases all are course fits among observed =
      of_one hull cases all course fits (are course fits) observed
