-- What the text of a certificate of either form says.
--
-- A text is read as a certificate of pieces. Only where its top has another shape than that is it
-- read as one by covers, and where that finds the same, it is refused as one of pieces. So each
-- text that the one reader takes or refuses for what lies below its top keeps its answer.
use Rattle.std.specs.Prelude.{◌≡◌, ◌⊎◌, ℕ, ◌≤◌, List, length, Result, Ok, Err, MatchResult}
use Rattle.certificate.specs.Certificate.{CertificateData, max_pieces}
use Rattle.certificate.specs.Certificate.{data_of as certificate_data}
use Rattle.certificate.specs.Fault.{number_of as pieces_number}
use Rattle.certificate.specs.Reading.{certificate_of}
use Rattle.certificate.specs.declared.fault.CertificateFault.{CertificateFault}
use Rattle.certificate.specs.declared.fault.CertificateFault.TheVariants as certificates
use Rattle.cover_certificate.specs.CoverCertificate.{CoverCertificateData, IsFew, data_of}
use Rattle.cover_certificate.specs.CoverReading.{covers_of}
use Rattle.cover_certificate.specs.Fault.{number_of as covers_number}
use Rattle.cover_certificate.specs.declared.any.AnyCertificate.{AnyCertificate}
use Rattle.cover_certificate.specs.declared.any.AnyCertificate.TheVariants as held
use Rattle.cover_certificate.specs.declared.any.AnyFault.{AnyFault}
use Rattle.cover_certificate.specs.declared.any.AnyFault.TheVariants.{OfPieces, ByCovers}
use Rattle.cover_certificate.specs.declared.fault.CoverFault.{CoverFault}
use Rattle.cover_certificate.specs.declared.fault.CoverFault.TheVariants as covers

-- a certificate of either form
pub data AnyData : Type 0 where
  of_pieces : CertificateData → AnyData
  by_covers : CoverCertificateData → AnyData

-- what a value of the program says
abbrev pub any_data : AnyCertificate → AnyData
any_data (held.OfPieces certificate) = of_pieces (certificate_data certificate)
any_data (held.ByCovers certificate) = by_covers (data_of certificate)

-- it keeps its limits
abbrev pub IsFewOfAny : AnyData → Type 0
IsFewOfAny (of_pieces certificate) = length certificate.pieces ≤ max_pieces
IsFewOfAny (by_covers certificate) = IsFew certificate

-- what is said of a text that isn't one of pieces at its top, by what it is as one by covers
abbrev pub covers_said : Result CoverCertificateData CoverFault → Result AnyData AnyFault
covers_said (Ok certificate) = Ok (by_covers certificate)
covers_said (Err covers.Top) = Err (OfPieces certificates.Top)
covers_said (Err fault) = Err (ByCovers fault)

-- what is said of a text, by what it is in either form
abbrev pub said_in : Result CertificateData CertificateFault
    → Result CoverCertificateData CoverFault → Result AnyData AnyFault
said_in (Ok certificate) other = Ok (of_pieces certificate)
said_in (Err certificates.Top) other = covers_said other
said_in (Err fault) other = Err (OfPieces fault)

-- what the bytes of a certificate of either form say
abbrev pub any_of : List ℕ → Result AnyData AnyFault
any_of bytes = said_in (certificate_of bytes) (covers_of bytes)

-- the number of each fault, which it has in its form
abbrev pub number_of : AnyFault → ℕ
number_of (OfPieces fault) = pieces_number fault
number_of (ByCovers fault) = covers_number fault

-- memory was refused
abbrev pub IsMemory : AnyFault → Type 0
IsMemory fault = (fault ≡ OfPieces certificates.Memory) ⊎ (fault ≡ ByCovers covers.Memory)

-- the answer is the one that is defined, value or fault, or memory was refused
abbrev pub Answers : Result AnyCertificate AnyFault → Result AnyData AnyFault → Type 0
Answers answer defined = MatchResult answer (λ certificate. defined ≡ Ok (any_data certificate))
    (λ fault. IsMemory fault ⊎ (defined ≡ Err fault))
