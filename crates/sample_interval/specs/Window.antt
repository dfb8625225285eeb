-- The windows of an exchange's two client moments, in ticks.
--
-- A record time is a window of ticks, and the clock's reading may lie before or after it by the
-- claim's allowance. So each window is wider than the record's by the allowance at both ends.
use Rattle.std.specs.Prelude.{ℤ, ◌+ℤ◌, ◌-ℤ◌}
use Rattle.pairing.specs.declared.exchange.Exchange.{Exchange}

-- the least reading at the request
abbrev pub request_start : Exchange → ℤ → ℤ
request_start x allowance = x.t1_low -ℤ allowance

-- the greatest reading at the request
abbrev pub request_end : Exchange → ℤ → ℤ
request_end x allowance = x.t1_high +ℤ allowance

-- the least reading at the reply
abbrev pub reply_start : Exchange → ℤ → ℤ
reply_start x allowance = x.t4_low -ℤ allowance

-- the greatest reading at the reply
abbrev pub reply_end : Exchange → ℤ → ℤ
reply_end x allowance = x.t4_high +ℤ allowance
