-- How a double of a device goes: how many bytes each call takes at most, and which one fails.
use Rattle.std.specs.Prelude.{ℕ, ◌+◌, ◌-◌, ◌^◌, ◌==◌, min, max, Bool, Option, unwrap_or}
use Rattle.byte_stream.specs.declared.pace.Pace.{Pace}
use Rattle.byte_stream.specs.declared.pace.Cut.{Cut}
use Rattle.byte_stream.specs.declared.pace.Cut.TheVariants.{Fixed, Growing}

-- The first call takes what `cut` says. The failing one is counted from 1; none if it's left out or
-- 0.
abbrev pub pace_of : Cut → Option ℕ → Pace
pace_of (Fixed count) failing = record {
  share = count;
  growth = 0;
  until_fault = unwrap_or failing 0;
}
pace_of Growing failing = record { share = 1; growth = 1; until_fault = unwrap_or failing 0 }

-- how many bytes the next call takes at most: one at least
abbrev pub most_of : Pace → ℕ
most_of pace = max pace.share 1

-- whether the next call fails
abbrev pub is_failing : Pace → Bool
is_failing pace = pace.until_fault == 1

-- how it goes on after a call
abbrev pub next_pace : Pace → Pace
next_pace pace =
    record {
      share = min (pace.share + pace.growth) (2 ^ 64 - 1);
      growth = pace.growth;
      until_fault = pace.until_fault - 1;
    }
