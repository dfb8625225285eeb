-- Where the proofs of this crate begin: what the crates below have proved of whatever numbers and lists.
use Rattle.finder.proofs.Common.{◌-◌, ◌*◌, arith, billion}
use Rattle.era_unfold.proofs.Rounding.{IsCeiling-ceiling_of}
use Rattle.intersection.proofs.EndPoints.{IsHull-hull_of}
use Rattle.intersection.proofs.Fractions.{hull_is_fine}
use Rattle.sample_interval.specs.Widening.{widening}
use Rattle.sample_interval.proofs.LeastWidening.{HaveWidenings, drift_by_reading, widening-mono_distance}
use Rattle.sample_interval.proofs.Moment.{at_reply, at_request}
use Rattle.span_cover.proofs.PieceDistance.{Grows, error_no_less, error_no_more}
use Rattle.checker.proofs.Hull.{Laws as HullLaws}

widenings : HaveWidenings
unfolding widening
widenings ppb distance h = IsCeiling-ceiling_of (ppb * distance) (billion - ppb) (omega arith)

pub grows : Grows
grows = widening-mono_distance widenings

pub hull_laws : HullLaws
hull_laws = record {
  drift = drift_by_reading;
  request = at_request;
  reply = at_reply;
  piece = λ n ppb low high p q request reply observed rate low_forward high_forward inside after least low_drift before
      most high_drift. (
        error_no_less widenings n ppb p q observed rate inside low request low_forward after least low_drift,
        error_no_more widenings n ppb p q observed rate inside high reply high_forward before most high_drift,
      );
  fine = hull_is_fine;
  hull = IsHull-hull_of;
}
