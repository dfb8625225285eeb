-- The text of `check`: what is claimed, what the capture has, what is advised, and the verdict.
use Rattle.std.specs.Prelude.{ℕ, nat_lt, if◌then◌else◌, Bool, true, false, Option, None, Some, List, [], ◌∷◌, ◌++◌, length, codes}
use Rattle.audit_text.specs.Common.{FieldData, line_of, Word, Named, Second, Nanoseconds, Billionths, Address, Reference, Nothing, Style, Plain, ClaimData, Collection}
use Rattle.audit_text.specs.Table.{word_for}
use Rattle.audit_text.specs.Second.{second_of}
use Rattle.audit_text.specs.CountsLine.{counts_line}
use Rattle.audit_text.specs.VerdictLine.{verdict_line}
use Rattle.audit_text.specs.declared.check_report.Findings.{Findings}

-- how many groups there are, if one holds several servers
abbrev pub groups_field : ℕ → ℕ → FieldData
groups_field groups servers =
    if nat_lt groups servers then Named (codes "groups") groups else Nothing

-- whose clock is claimed of, and against whom
unfoldable pub client_line : Style → ClaimData → ℕ → List ℕ
client_line style claim groups = line_of style (
    Word (codes "client") ∷ Address claim.client ∷
    Named (codes "servers") (length claim.servers) ∷ Named (codes "false_max") claim.false_max ∷
    groups_field groups (length claim.servers) ∷ [])

-- the span, and the numbers that are claimed
unfoldable pub span_line : Style → ClaimData → List ℕ
span_line style claim = line_of style (
    Word (codes "span") ∷ Second (second_of claim.first) ∷ Second (second_of claim.last) ∷
    word_for style (codes "bound_ns") (codes "bound") ∷ Nanoseconds claim.bound_ns ∷
    word_for style (codes "drift_ppb") (codes "drift") ∷ Billionths claim.drift_ppb ∷
    word_for style (codes "reading_ns") (codes "reading") ∷ Nanoseconds claim.reading_ns ∷ [])

-- the fewest servers with which one false one can be told from the others
abbrev pub enough_sources : ℕ
enough_sources = 4

-- the advice to ask more servers, if few have a sample
unfoldable pub sources_advice : Style → ℕ → List ℕ
sources_advice style count =
    if nat_lt count enough_sources
    then line_of style (Word (codes "advice") ∷ Named (codes "sources") count ∷ []) else []

-- the advice that all servers name one reference identifier: they may all depend on one clock
unfoldable pub reference_advice : Style → Option (List ℕ) → List ℕ
reference_advice style None = []
reference_advice style (Some reference) =
    line_of style (Word (codes "advice reference") ∷ Reference reference ∷ [])

-- how many pieces the certificate has
abbrev pub pieces_line : Style → ℕ → List ℕ
pieces_line style pieces = line_of style (Named (codes "pieces") pieces ∷ [])

-- whether any course of events fits the whole capture, if that is told
abbrev pub fits_line : Style → Option Bool → List ℕ
fits_line style None = []
fits_line style (Some true) = line_of style (Word (codes "a course fits") ∷ [])
fits_line style (Some false) = line_of style (Word (codes "no course fits: see settle") ∷ [])

-- what stands about the inputs of a run, for a person alone
abbrev pub about_told : Style → List ℕ → List ℕ
about_told Plain about = []
about_told style about = about

-- the whole text; what is told of a certificate by covers stands behind the number of its pieces
unfoldable pub check_text :
    Style → ClaimData → Collection → Findings → List ℕ → List ℕ → List ℕ
check_text style claim collection findings covers about =
    client_line style claim findings.groups ++ span_line style claim ++
    counts_line collection.counts (length collection.exchanges) ++
    sources_advice style findings.sources ++ reference_advice style findings.reference ++
    pieces_line style findings.pieces ++ covers ++ fits_line style findings.fits ++
    about_told style about ++ verdict_line style findings.verdict
