-- The line that says what became of a capture's records. It is the same for a person.
use Rattle.std.specs.Prelude.{ℕ, List, [], ◌∷◌, codes}
use Rattle.audit_text.specs.Common.{line_of, Named, Plain, Counts}

-- records, requests, replies and samples; replies that are refused for what their own header says;
-- replies with no request or several, and warnings of a leap second
unfoldable pub counts_line : Counts → ℕ → List ℕ
counts_line counts samples = line_of Plain (
    Named (codes "records") counts.records ∷ Named (codes "requests") counts.requests ∷
    Named (codes "replies") counts.replies ∷ Named (codes "samples") samples ∷
    Named (codes "version") counts.version ∷ Named (codes "leap") counts.leap ∷
    Named (codes "stratum") counts.stratum ∷ Named (codes "precision") counts.precision ∷
    Named (codes "zero") counts.zero_stamp ∷ Named (codes "norequest") counts.no_request ∷
    Named (codes "ambiguous") counts.ambiguous ∷ Named (codes "warnings") counts.warnings ∷ [])
