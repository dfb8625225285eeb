use Rattle.cover_checker.proofs.Common.{IsNamed}
use Rattle.cover_checker.proofs.Named.{fits_named}
use Rattle.cover_checker.proofs.laws.capture_fits_what_is_named.Goals as goal

pub returns : goal.returns
returns c claim xs certificate course rate listed fits =
    fits_named claim xs (IsNamed claim certificate course) course rate listed fits
