-- Refutations of the worked claim by its one exchange.
--
-- The exchange leaves room for each error from -42,949,674 to 42,953,969 ticks. From one more than
-- the bound on, and from one less than its negative down, such an error is evidence against a
-- claim.
use Rattle.std.specs.Prelude.{ℕ, ℤ, pos, List, [], ◌∷◌}
use Rattle.checker.specs.Common.{RefutationData, ClaimData, worked_second, worked_claim}
use Rattle.checker.specs.Refutation.{IsRefuted}
use Rattle.checker.specs.WorkedCourse.{worked_exchange}

-- the worked claim with this bound, and with this many groups that may be false
abbrev pub claim_with : ℕ → ℕ → ClaimData
claim_with bound false_max = record worked_claim { bound = pos bound; false_max = false_max }

-- this error at the worked second, with these servers false
abbrev pub refutation_with : ℤ → List ℕ → RefutationData
refutation_with error liars =
    record { error = error; liars = liars; reading = worked_second }

-- the worked exchange refutes a claim by this error at the worked second, with these servers false
abbrev pub Refutes : ClaimData → ℤ → List ℕ → Type 0
Refutes claim error liars = IsRefuted claim (worked_exchange ∷ []) (refutation_with error liars)
