use Rattle.std.proofs.Common.{◌∙◌, sym}
use Rattle.listing.proofs.Endings.{lists_over}
use Rattle.listing.proofs.list.list_from.Goals as goal

pub returns : goal.returns
returns g c =
    let same = c.close.ensures.same_sink ∙ (c.list_records-ran.ensures.same_sink ∙ c.new-output.ensures.same_sink) in
    let back = c.out-1.given.1 (sym same) ∙ c.drop-output.ensures in
    rw back (lists_over c.new-output.ensures.state c.list_records-ran.ensures.listed c.close.ensures.closes)
