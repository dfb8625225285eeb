-- What a refutation says, for a person: its error and when, how that stands to the claim's bound,
-- and which servers it takes for false.
use Rattle.std.specs.Prelude.{ℕ, ℤ, pos, List, [], ◌∷◌, ◌++◌, codes, Option, Some, None, flat_map, slice_get, if◌then◌else◌}
use Rattle.audit_text.specs.Common.{line_of, Word, Named, Nanoseconds, TimeBelow, Address, Human, RefutationData, ClaimData}
use Rattle.audit_text.specs.BoundLines.{claimed_line}
use Rattle.audit_text.specs.Excess.{error_field, excess, is_beyond}

-- the error, and the time that the clock showed
unfoldable pub error_line : RefutationData → List ℕ
error_line refutation = line_of Human (
    Word (codes "error") ∷ error_field refutation.error ∷ Word (codes "ms at") ∷
    TimeBelow (pos refutation.reading) ∷ [])

-- how far it is beyond a bound in nanoseconds, or that it isn't
unfoldable pub excess_line : ℕ → ℤ → List ℕ
excess_line bound_ns error =
    if is_beyond bound_ns error
    then line_of Human (
    Word (codes "beyond the bound by") ∷ Nanoseconds (excess bound_ns error) ∷ [])
    else line_of Human (Word (codes "not beyond the bound") ∷ [])

-- a server that is taken for false, by its address, or by its number if the claim hasn't it
unfoldable pub wrong_line : ℕ → Option (List ℕ) → List ℕ
wrong_line number (Some address) = line_of Human (Word (codes "if wrong") ∷ Address address ∷ [])
wrong_line number None = line_of Human (
    Named (codes "if wrong server") number ∷ Word (codes "not in the claim") ∷ [])

-- the line of the server with this number
abbrev pub liar_line : ClaimData → ℕ → List ℕ
liar_line claim number = wrong_line number (slice_get claim.servers number)

-- each of them, or that there is none
unfoldable pub liar_lines : ClaimData → List ℕ → List ℕ
liar_lines claim [] = line_of Human (Word (codes "if wrong none") ∷ [])
liar_lines claim (liar ∷ liars) = flat_map (liar_line claim) (liar ∷ liars)

-- all of it
unfoldable pub refutation_lines : ClaimData → RefutationData → List ℕ
refutation_lines claim refutation =
    error_line refutation ++ claimed_line claim.bound_ns ++
    excess_line claim.bound_ns refutation.error ++ liar_lines claim refutation.liars
