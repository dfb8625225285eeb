-- What an exchange leaves for the clock's error: a mark that it can't lie below, and one that it
-- can't lie above.
--
-- A server that isn't false got the request after it left and answered before the reply arrived
-- (RFC 5905, section 8), and both its timestamps are within its root distance of true time. So when
-- the clock read the start of the request's window, its error was at least the low mark's; and when
-- it read the end of the reply's window, its error was at most the high mark's. The error drifts
-- between two readings, and two marks that ask for more than that are kept by no course of events.
--
-- What the clock advances is reading, and reading is true time and error. So of what the clock
-- itself advances the error rises by at most P/(B+P) and falls by at most P/(B-P), with P the rate
-- in parts of B.
use Rattle.std.specs.Prelude.{ℕ, ◌+◌, ◌-◌, ℤ, pos, ◌+ℤ◌, ◌-ℤ◌, ◌*ℤ◌, ◌≤ℤ◌, ◌<ℤ◌}
use Rattle.std.specs.Int.{int_max, int_min}
use Rattle.pairing.specs.declared.exchange.Exchange.{Exchange}
use Rattle.sample_interval.specs.Widening.{billion}
use Rattle.sample_interval.specs.Window.{request_start, reply_end}
use Rattle.error_marks.specs.declared.mark.Mark.{Mark}

-- at the start of the request's window the error is at least this
abbrev pub low_mark : ℤ → Exchange → Mark
low_mark allowance x = record {
  place = request_start x allowance;
  error = (request_start x allowance -ℤ int_min x.t2 x.t3) -ℤ x.distance;
}

-- at the end of the reply's window the error is at most this
abbrev pub high_mark : ℤ → Exchange → Mark
high_mark allowance x = record {
  place = reply_end x allowance;
  error = (reply_end x allowance -ℤ int_max x.t2 x.t3) +ℤ x.distance;
}

-- an exchange has four moments, one after another, for some error: the request can leave before the
-- reply arrives, and the server can receive before it answers
pub record IsPossible (allowance : ℤ) (x : Exchange) : Type 0 where
  pub leaves_before_arrival : request_start x allowance ≤ℤ reply_end x allowance
  pub receives_before_answer : (x.t2 -ℤ x.distance) ≤ℤ (x.t3 +ℤ x.distance)

-- some course keeps a low mark and a high mark, with this rate: from the low mark the error needn't
-- fall faster than it may to the high one behind it, nor rise faster from the high one before it
pub record AreCompatible (ppb : ℕ) (low high : Mark) : Type 0 where
  pub falls : low.place ≤ℤ high.place
      → (pos (billion - ppb) *ℤ (low.error -ℤ high.error)) ≤ℤ (pos ppb *ℤ (high.place -ℤ low.place))
  pub rises : high.place <ℤ low.place
      → (pos (billion + ppb) *ℤ (low.error -ℤ high.error)) ≤ℤ (pos ppb *ℤ (low.place -ℤ high.place))
