-- Two exchanges an hour apart that no steady clock explains, and that a clock which drifts by a
-- hundred parts in a million does.
--
-- The worked exchange leaves each error from -42,949,674 to 42,953,969 ticks, 10 ms to either side.
-- An hour later another leaves each from 386,547,056 to 472,450,699, about 100 ms. Between them lie
-- 80 ms, and in an hour a drift of 100,000 parts in 10^9 is 360 ms, one of 10,000 parts 36 ms.
use Rattle.std.specs.Prelude.{ℕ, ◌+◌, ◌-◌, pos, List, [], ◌∷◌}
use Rattle.feasibility.specs.Common.{hour, worked_exchange, claim_with, ClaimData, worked_second, Exchange}

-- an exchange an hour after the worked one, by which the clock was 100 ms ahead
abbrev pub later_exchange : Exchange
later_exchange = record worked_exchange {
  request = 2;
  reply = 3;
  t1_low = pos (worked_second + hour);
  t1_high = pos (worked_second + hour + 4295);
  t4_low = pos (worked_second + hour + 85899345);
  t4_high = pos (worked_second + hour + 85903641);
  t2 = pos (worked_second + hour - 386547057);
  t3 = pos (worked_second + hour - 386547057);
}

abbrev pub both_exchanges : List Exchange
both_exchanges = worked_exchange ∷ later_exchange ∷ []

-- the worked claim, with a bound of some 10 ms and this drift
abbrev pub drifting_claim : ℕ → ClaimData
drifting_claim ppb = record (claim_with 42953967 0) { drift_ppb = ppb }
