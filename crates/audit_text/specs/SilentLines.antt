-- The servers of a claim that have no sample, for a person: a line for each, by its address.
use Rattle.std.specs.Prelude.{ℕ, zero, suc, List, [], ◌∷◌, ◌++◌, codes, length, if◌then◌else◌}
use Rattle.audit_text.specs.Common.{line_of, Word, Address, Human, ClaimData, is_source, Exchange}
use Rattle.audit_text.specs.SampleLine.{server_of}

-- the line of the server with this number, if no exchange is with it
unfoldable pub silent_line : ClaimData → List Exchange → ℕ → List ℕ
silent_line claim xs number =
    if is_source xs number then []
    else line_of Human (Word (codes "no sample") ∷ Address (server_of claim number) ∷ [])

-- the lines of the first of so many servers
abbrev pub silent_to : ClaimData → List Exchange → ℕ → List ℕ
silent_to claim xs zero = []
silent_to claim xs (suc number) = silent_to claim xs number ++ silent_line claim xs number

-- the lines of all
abbrev pub silent_lines : ClaimData → List Exchange → List ℕ
silent_lines claim xs = silent_to claim xs (length claim.servers)
