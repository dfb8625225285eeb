use Rattle.std.proofs.Common.{◌∙◌}
use Rattle.listing.proofs.Refusal.{list_report-read, listing-of}
use Rattle.listing.proofs.laws.broken_capture_is_listed.Goals as goal

pub returns : goal.returns
returns c bytes records fault are_bytes broken =
    list_report-read bytes _ ((c.fault_is_the_first.ensures bytes records fault are_bytes).1 broken) ∙ listing-of _
