use Rattle.std.proofs.Common.{◌∙◌}
use Rattle.listing.proofs.Refusal.{list_report-read, listing-of}
use Rattle.listing.proofs.laws.capture_is_listed.Goals as goal

pub returns : goal.returns
returns c bytes format records is =
    list_report-read bytes _ (c.capture_is_read.ensures bytes format records is) ∙ listing-of _
