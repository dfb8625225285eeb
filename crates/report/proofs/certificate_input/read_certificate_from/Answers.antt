use Rattle.report.proofs.Common.{any_data}
use Rattle.report.proofs.Reading.{input_is_read, input_refused, input_unread}
use Rattle.report.proofs.CertificateFaults.{told}
use Rattle.report.proofs.certificate_input.read_certificate_from.Goals as goal

pub returns-in-Err-clause-known : goal.returns-in-Err-clause-known
returns-in-Err-clause-known g c =
    input_unread any_data _ _ _ _ _ c.in-Err.fault c.in-Err.ensures.fault c.in-Err.ensures.whole

pub returns-in-Ok-read_certificate_in-clause-known : goal.returns-in-Ok-read_certificate_in-clause-known
returns-in-Ok-read_certificate_in-clause-known g c =
    input_is_read any_data _ _ _ _ _ _ c.in-Ok-read_certificate_in.certificate c.in-Ok.ensures.whole
    c.in-Ok-read_certificate_in.ensures.exact

-- a certificate's refusal is the run's
pub returns-in-Err-read_certificate_in-clause-known : goal.returns-in-Err-read_certificate_in-clause-known
returns-in-Err-read_certificate_in-clause-known g c =
    rw c.from.ensures (input_refused any_data _ _ _ _ _ _ _ c.in-Ok.ensures.whole
    (told c.in-Err-read_certificate_in.fault _ c.in-Err-read_certificate_in.ensures.exact))
