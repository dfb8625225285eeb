-- The moment that a 64-bit NTP timestamp stands for (RFC 5905, section 6).
--
-- A timestamp has 32 bits of seconds and 32 bits of fraction. It counts ticks of 2^-32 second from
-- the beginning of an era of 2^64 ticks, which is about 136 years, and doesn't say which era. Era 0
-- began at 1900-01-01T00:00:00Z, and 1970-01-01T00:00:00Z is its second 2208988800. So a timestamp
-- stands for one tick in each era, and a moment near it chooses among them: the one that lies less
-- than half an era away, or half an era before it.
--
-- That is said here by a congruence and a range. No era has a number.
use Rattle.std.specs.Prelude.{◌≡◌, ℕ, ◌*◌, ◌^◌, ℤ, pos, ◌+ℤ◌, ◌-ℤ◌, ◌*ℤ◌, ◌≤ℤ◌, ◌<ℤ◌}
use Rattle.std.specs.Int.{int_rem_euclid}

-- the ticks of an era
abbrev pub era : ℕ
era = 2 ^ 64

-- the ticks of half an era
abbrev pub half_era : ℕ
half_era = 2 ^ 63

-- the ticks from 1900-01-01T00:00:00Z to 1970-01-01T00:00:00Z
abbrev pub ticks_before_1970 : ℕ
ticks_before_1970 = 2208988800 * 2 ^ 32

-- the Unix tick s, counted from 1900, is the timestamp and a whole number of eras
pub record StandsFor (stamp : ℕ) (s : ℤ) : Type 0 where
  pub eras : ℤ
  pub ticks_since_1900 : pos stamp +ℤ eras *ℤ pos era ≡ s +ℤ pos ticks_before_1970

-- s is the Unix tick near the moment `near` that the timestamp stands for
pub record IsUnfolded (stamp : ℕ) (near s : ℤ) : Type 0 where
  pub stands_for : StandsFor stamp s
  pub not_before : (near -ℤ pos half_era) ≤ℤ s
  pub before : s <ℤ (near +ℤ pos half_era)

-- that Unix tick: the first, from half an era before `near` on, that the timestamp stands for
unfoldable pub unfolded : ℕ → ℤ → ℤ
unfolded stamp near =
    let first = near -ℤ pos half_era in
    first +ℤ int_rem_euclid (pos stamp -ℤ pos ticks_before_1970 -ℤ first) (pos era)
