use Rattle.certificate.proofs.Limits.{certificate_of-readable}
use Rattle.certificate.proofs.laws.certificates_are_readable.Goals as goal

pub returns : goal.returns
returns c = record {
  few = λ bytes certificate is. (certificate_of-readable bytes certificate is).0;
  readable = λ bytes certificate is. (certificate_of-readable bytes certificate is).1;
}
