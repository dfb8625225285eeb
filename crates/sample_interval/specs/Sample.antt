-- What an exchange says about the client's error, which is the clock's reading less true time.
--
-- The server received after the request left, and its receive timestamp T2 is off by the root
-- distance R at most. So the error at the request is at least T1 - T2 - R, with the least reading
-- for T1. In the same way the error at the reply is at most T4 - T3 + R, with the greatest reading
-- for T4. In the words of RFC 5905, section 8: T2 - T1 is the offset and half the delay, T3 - T4
-- the offset less half the delay, and the client's error is the negative of the offset.
use Rattle.std.specs.Prelude.{◌^◌, ◌≤◌, ℤ, ◌+ℤ◌, ◌-ℤ◌, ◌≤ℤ◌, unsigned_abs}
use Rattle.pairing.specs.declared.exchange.Exchange.{Exchange}
use Rattle.sample_interval.specs.declared.kinds.Sample.{Sample}
use Rattle.sample_interval.specs.Window.{request_start, request_end, reply_start, reply_end}

-- the least error at the request
abbrev pub least_error : Exchange → ℤ → ℤ
least_error x allowance = request_start x allowance -ℤ x.t2 -ℤ x.distance

-- the greatest error at the reply
abbrev pub greatest_error : Exchange → ℤ → ℤ
greatest_error x allowance = reply_end x allowance -ℤ x.t3 +ℤ x.distance

-- both ends, each with its window: the readings of the clock at the moment that it speaks of
abbrev pub sample_of : Exchange → ℤ → Sample
sample_of x allowance = record {
  server = x.server;
  low = least_error x allowance;
  low_from = request_start x allowance;
  low_to = request_end x allowance;
  high = greatest_error x allowance;
  high_from = reply_start x allowance;
  high_to = reply_end x allowance;
}

-- each number of ticks lies from -2^72 to 2^72, and no window ends before it begins
pub record IsLawfulSample (sample : Sample) : Type 0 where
  pub low : unsigned_abs sample.low ≤ 2 ^ 72
  pub low_from : unsigned_abs sample.low_from ≤ 2 ^ 72
  pub low_to : unsigned_abs sample.low_to ≤ 2 ^ 72
  pub low_window_in_order : sample.low_from ≤ℤ sample.low_to
  pub high : unsigned_abs sample.high ≤ 2 ^ 72
  pub high_from : unsigned_abs sample.high_from ≤ 2 ^ 72
  pub high_to : unsigned_abs sample.high_to ≤ 2 ^ 72
  pub high_window_in_order : sample.high_from ≤ℤ sample.high_to
