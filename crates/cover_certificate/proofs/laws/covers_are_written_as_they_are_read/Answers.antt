use Rattle.std.proofs.Common.{sym}
use Rattle.cover_certificate.proofs.CoversLimits.{covers_of-few}
use Rattle.cover_certificate.proofs.CoversText.{covers_of-text, covers_text-value}
use Rattle.cover_certificate.proofs.laws.covers_are_written_as_they_are_read.Goals as goal

pub returns : goal.returns
returns c = record {
  few = covers_of-few;
  read = λ certificate few held. covers_of-text certificate held few;
  text = λ certificate. sym (covers_text-value certificate);
}
