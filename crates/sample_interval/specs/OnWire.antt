-- Offset and delay of the on-wire protocol (RFC 5905, section 8), with T1 and T4 known as windows.
--
-- Both are least and greatest at ends of the windows. An offset may be half a tick, so its interval
-- is rounded outwards.
use Rattle.std.specs.Prelude.{ℤ, pos, ◌+ℤ◌, ◌-ℤ◌, neg_ℤ}
use Rattle.std.specs.Int.{int_div_euclid}
use Rattle.pairing.specs.declared.exchange.Exchange.{Exchange}
use Rattle.sample_interval.specs.Window.{request_start, request_end, reply_start, reply_end}

-- twice the offset of four times: (T2 - T1) + (T3 - T4)
abbrev pub offset_doubled : ℤ → ℤ → ℤ → ℤ → ℤ
offset_doubled t1 t2 t3 t4 = (t2 -ℤ t1) +ℤ (t3 -ℤ t4)

-- the delay of four times: (T4 - T1) - (T3 - T2)
abbrev pub delay_of : ℤ → ℤ → ℤ → ℤ → ℤ
delay_of t1 t2 t3 t4 = (t4 -ℤ t1) -ℤ (t3 -ℤ t2)

-- twice the least offset of an exchange
abbrev pub least_offset_doubled : Exchange → ℤ → ℤ
least_offset_doubled x a = offset_doubled (request_end x a) x.t2 x.t3 (reply_end x a)

-- twice the greatest offset of an exchange
abbrev pub greatest_offset_doubled : Exchange → ℤ → ℤ
greatest_offset_doubled x a = offset_doubled (request_start x a) x.t2 x.t3 (reply_start x a)

-- half of a whole number, rounded down
abbrev pub half_down : ℤ → ℤ
half_down z = int_div_euclid z (pos 2)

-- half of a whole number, rounded up
abbrev pub half_up : ℤ → ℤ
half_up z = neg_ℤ (half_down (neg_ℤ z))

-- the least offset, rounded down
abbrev pub offset_from : Exchange → ℤ → ℤ
offset_from x a = half_down (least_offset_doubled x a)

-- the greatest offset, rounded up
abbrev pub offset_to : Exchange → ℤ → ℤ
offset_to x a = half_up (greatest_offset_doubled x a)

-- the least delay
abbrev pub delay_from : Exchange → ℤ → ℤ
delay_from x a = delay_of (request_end x a) x.t2 x.t3 (reply_start x a)

-- the greatest delay
abbrev pub delay_to : Exchange → ℤ → ℤ
delay_to x a = delay_of (request_start x a) x.t2 x.t3 (reply_end x a)
