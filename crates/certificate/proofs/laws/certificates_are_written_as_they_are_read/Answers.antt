use Rattle.std.proofs.Common.{sym}
use Rattle.certificate.proofs.CompactRead.{certificate_of-text}
use Rattle.certificate.proofs.Texts.{certificate_text-value}
use Rattle.certificate.proofs.laws.certificates_are_written_as_they_are_read.Goals as goal

pub returns : goal.returns
returns c = record {
  read = certificate_of-text;
  text = λ certificate. sym (certificate_text-value certificate);
}
