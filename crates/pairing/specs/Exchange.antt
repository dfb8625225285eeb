-- The limits that every exchange keeps.
use Rattle.std.specs.Prelude.{◌≡◌, ℕ, ◌^◌, ◌<◌, ◌≤◌, ℤ, pos, negsuc, ◌-◌, ◌≤ℤ◌, List, length, All, AllPairs}
use Rattle.pairing.specs.declared.exchange.Exchange.{Exchange}

-- the greatest number of exchanges of a capture
abbrev pub most_exchanges : ℕ
most_exchanges = 1000000

-- a number of ticks from -2^70 to 2^70
pub record IsInRange (tick : ℤ) : Type 0 where
  pub least : negsuc (2 ^ 70 - 1) ≤ℤ tick
  pub greatest : tick ≤ℤ pos (2 ^ 70)

-- one exchange, of a claim with this many servers
pub record IsLawful (servers : ℕ) (x : Exchange) : Type 0 where
  pub listed : x.server < servers
  pub t1_low : IsInRange x.t1_low
  pub t1_high : IsInRange x.t1_high
  pub t1_ordered : x.t1_low ≤ℤ x.t1_high
  pub t4_low : IsInRange x.t4_low
  pub t4_high : IsInRange x.t4_high
  pub t4_ordered : x.t4_low ≤ℤ x.t4_high
  pub t2 : IsInRange x.t2
  pub t3 : IsInRange x.t3
  pub distance : IsInRange x.distance
  pub distance_not_negative : pos 0 ≤ℤ x.distance

-- the exchanges of one request agree in when it was sent
abbrev pub SameRequest : Exchange → Exchange → Type 0
SameRequest x y = x.request ≡ y.request → (x.t1_low ≡ y.t1_low) × (x.t1_high ≡ y.t1_high)

-- the exchanges of a capture, of a claim with this many servers
pub record AreLawful (servers : ℕ) (xs : List Exchange) : Type 0 where
  pub few : length xs ≤ most_exchanges
  pub each : All (IsLawful servers) xs
  pub agree : AllPairs SameRequest xs
