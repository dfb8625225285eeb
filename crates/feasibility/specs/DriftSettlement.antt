-- What the answers say on a refutation of which the clock may drift, and on whether a course fits.
use Rattle.std.specs.Prelude.{◌≡◌, ◌↔◌, Bool, IsTrue, List, AllPairs}
use Rattle.feasibility.specs.Common.{CertificateData, RefutationData, Course, IsAgainst, samples_of, verdict_of, Yes, ClaimData, SameRequest, Exchange}
use Rattle.feasibility.specs.Cover.{HasSmallCover, SomeCourse}
use Rattle.feasibility.specs.DriftRefutation.{IsRefutedWithDrift, Shows, HasDriftCourse}

-- whether a refutation stands, and what it shows
pub record SettlesWithDrift (claim : ClaimData) (xs : List Exchange) (refutation : RefutationData)
    (stands : Bool) : Type 0 where
  pub exact : IsTrue stands ↔ IsRefutedWithDrift claim xs refutation
  -- if it stands, a course fits in which just its liars are false, and which is observed at its
  -- reading with its error
  pub course : IsTrue stands → AllPairs SameRequest xs → HasDriftCourse claim xs refutation
  -- and wherever some course shows it, it stands
  pub converse : IsAgainst claim refutation → (course : Course) → Shows claim xs refutation course
      → IsTrue stands
  -- if it stands, no certificate gets a yes
  pub no_yes : IsTrue stands → (certificate : CertificateData) →
      ¬ (verdict_of (samples_of xs claim) claim certificate ≡ Yes)

-- whether any course fits
pub record SettlesFit (claim : ClaimData) (xs : List Exchange) (fits : Bool) : Type 0 where
  pub exact : IsTrue fits ↔ SomeCourse claim xs
  pub cover : IsTrue fits ↔ HasSmallCover claim xs
