-- What a refutation says: an error by which the clock may have been off at a reading, if some
-- servers are false.
use Rattle.std.specs.Prelude.{ℕ, ◌-◌, ◌^◌, ◌<◌, ◌≤◌, ℤ, pos, negsuc, ◌≤ℤ◌, ◌<ℤ◌, List, length, All}
use Rattle.certificate.specs.declared.refutation.Refutation.{Refutation}

-- a refutation as numbers and a list: the error in ticks of 2^-32 s, the numbers of the servers
-- that have to be false, and the reading in Unix ticks
pub record RefutationData : Type 0 where
  pub error : ℤ
  pub liars : List ℕ
  pub reading : ℕ

-- what a value of the program says
abbrev pub data_of : Refutation → RefutationData
data_of refutation = record {
  error = refutation.error;
  liars = refutation.liars.items;
  reading = refutation.reading;
}

-- the most servers that a refutation names
abbrev pub max_liars : ℕ
max_liars = 32

-- a refutation as a program holds it: an error of 64 bits with sign, few servers with numbers of 8
-- bits, and a reading of 64 bits
pub record IsHeldRefutation (refutation : RefutationData) : Type 0 where
  pub least : negsuc (2 ^ 63 - 1) ≤ℤ refutation.error
  pub greatest : refutation.error <ℤ pos (2 ^ 63)
  pub few : length refutation.liars ≤ max_liars
  pub named : All (λ server. server < 2 ^ 8) refutation.liars
  pub reading : refutation.reading < 2 ^ 64
