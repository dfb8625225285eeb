-- How a call counts the faults of a device: of a feed, a sink, a source of records, or of an
-- engine's input or output.
use Rattle.std.specs.Prelude.{◌≡◌, ◌+◌, ℕ, Bool, true, false}
use Rattle.std.proofs.Common.{ap, ◌∙◌}

-- A call that the device failed counts one fault more, and any other none. No call goes on after
-- such a failure.
abbrev pub CountsFault : Bool → ℕ → ℕ → Type 0
CountsFault true before after = after ≡ before + 1
CountsFault false before after = after ≡ before

-- what a call counts, it counts after calls with no fault too
pub CountsFault-after : (failed : Bool) (start before after : ℕ) → before ≡ start →
    CountsFault failed before after → CountsFault failed start after
CountsFault-after true start before after same counts = counts ∙ ap (λ n. n + 1) same
CountsFault-after false start before after same counts = counts ∙ same
