-- What the answer on a refutation says.
use Rattle.std.specs.Prelude.{◌≡◌, ◌↔◌, Bool, IsTrue, List, AllPairs}
use Rattle.checker.specs.Common.{CertificateData, RefutationData, ClaimData, SameRequest, Exchange}
use Rattle.checker.specs.Refutation.{IsRefuted, HasCourse}
use Rattle.checker.specs.RefutationTest.{is_refuted}
use Rattle.checker.specs.Traceability.{samples_of}
use Rattle.checker.specs.Verdict.{verdict_of}
use Rattle.checker.specs.declared.verdict.Verdict.TheVariants.{Yes}

-- whether a refutation stands, and what it shows
pub record Settles (claim : ClaimData) (xs : List Exchange) (refutation : RefutationData)
    (stands : Bool) : Type 0 where
  pub exact : IsTrue stands ↔ IsRefuted claim xs refutation
  pub tested : stands ≡ is_refuted claim xs refutation
  -- if it stands, a course of events fits in which the error is beyond the bound in the span
  pub course : IsTrue stands → AllPairs SameRequest xs → HasCourse claim xs refutation
  -- and no certificate gets a yes
  pub no_yes : IsTrue stands → (certificate : CertificateData) →
      ¬ (verdict_of (samples_of xs claim) claim certificate ≡ Yes)
