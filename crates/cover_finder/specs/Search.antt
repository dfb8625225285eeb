-- What a search by covers gives.
use Rattle.std.specs.Prelude.{true, List, Option, IfSome}
use Rattle.cover_finder.specs.Common.{certificate_data, refutation_data, ClaimData, CoverCertificateData, Exchange, IsAccepted, IsFew, Refutation, SettlesWithDrift, SomeCourse}
use Rattle.cover_certificate.specs.declared.cover_certificate.CoverCertificate.{CoverCertificate}
use Rattle.cover_finder.specs.Open.{MayStayOpen}
use Rattle.cover_finder.specs.declared.search.Found.{Found}
use Rattle.cover_finder.specs.declared.search.Found.TheVariants as found

-- the certificate is accepted, and few enough of each to be read
pub record IsCarriedBy (claim : ClaimData) (xs : List Exchange) (certificate : CoverCertificateData)
    : Type 0 where
  pub accepted : IsAccepted claim xs certificate
  pub few : IsFew certificate

-- so it is with one that is found
abbrev pub IsCarriedIfFound : ClaimData → List Exchange → Option CoverCertificate → Type 0
IsCarriedIfFound claim xs found =
    IfSome found (λ certificate. IsCarriedBy claim xs (certificate_data certificate))

-- a refutation that is found stands
abbrev pub IsRefutedIfFound : ClaimData → List Exchange → Option Refutation → Type 0
IsRefutedIfFound claim xs found =
    IfSome found (λ refutation. SettlesWithDrift claim xs (refutation_data refutation) true)

-- What is found is so. Where nothing is, though a course fits, there is a reason.
abbrev pub Finds : ClaimData → List Exchange → Found → Type 0
Finds claim xs (found.Certificate certificate) =
    IsCarriedBy claim xs (certificate_data certificate)
Finds claim xs (found.Refutation refutation) =
    SettlesWithDrift claim xs (refutation_data refutation) true
Finds claim xs found.Nothing = SomeCourse claim xs → MayStayOpen claim xs
