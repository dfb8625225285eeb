use Rattle.feasibility.proofs.Common.{map, data_of as claim_data}
use Rattle.feasibility.proofs.fits.course_fits.Goals as goal

pub returns : goal.returns
returns g c =
    let (to, from) = c.in_ok-found.ensures.covers in
    let (has, has_from) = c.has_cover.ensures.exact in
    c.fits_are_settled.ensures.course (claim_data c.args.claim.now) (map g.X.ToExchange.shown c.args.exchanges.now)
    c.has_cover.result c.args.claim.now.lawful c.requires.exchanges
    (λ fits. from (has fits), λ course. has_from (to course))
