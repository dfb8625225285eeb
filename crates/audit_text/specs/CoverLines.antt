-- What `check` tells of a certificate by covers before the verdict: the exchanges by which groups
-- are caught, and the servers that each case takes for wrong.
use Rattle.std.specs.Prelude.{ℕ, zero, suc, Option, None, Some, List, [], ◌∷◌, ◌++◌, codes, flat_map, length, slice_get, slice_index, if◌then◌else◌}
use Rattle.audit_text.specs.Common.{line_of, Low, Word, Named, Address, Style, high_mark, low_mark, missed_by, ClaimData, Exchange, CaseData, CoverCertificateData, names}
use Rattle.audit_text.specs.SampleLine.{server_of}
use Rattle.audit_text.specs.Settlement.{pair_line}
use Rattle.audit_text.specs.Table.{is_plain}

-- by how many ticks two exchanges miss each other, for a person
unfoldable pub apart_line : Style → ClaimData → Exchange → Exchange → List ℕ
apart_line style claim low high = if is_plain style then [] else line_of style (
    Word (codes "apart by") ∷ Low (missed_by claim.drift_ppb (low_mark claim.reading low)
    (high_mark claim.reading high)) ∷ Word (codes "ms") ∷ [])

-- the lines of two exchanges, if both are there
abbrev pub caught_lines : Style → ClaimData → Option Exchange → Option Exchange → List ℕ
caught_lines style claim (Some low) (Some high) =
    pair_line style claim low high ++ apart_line style claim low high
caught_lines style claim _ _ = []

-- the same by their numbers
abbrev pub named_line : Style → ClaimData → List Exchange → ℕ × ℕ → List ℕ
named_line style claim xs pair =
    caught_lines style claim (slice_get xs pair.0) (slice_get xs pair.1)

-- the line of the server with this number, if the case takes its group for wrong
unfoldable pub wrong_line : Style → ClaimData → CaseData → ℕ → List ℕ
wrong_line style claim case server =
    if names case (slice_index claim.groups server)
    then line_of style (Word (codes "wrong") ∷ Address (server_of claim server) ∷ []) else []

-- the lines of the first of so many servers
abbrev pub wrong_to : Style → ClaimData → CaseData → ℕ → List ℕ
wrong_to style claim case zero = []
wrong_to style claim case (suc server) =
    wrong_to style claim case server ++ wrong_line style claim case server

-- a case: its number, how many pieces it has, and which servers it takes for wrong
unfoldable pub case_lines : Style → ClaimData → ℕ → CaseData → List ℕ
case_lines style claim number case =
    line_of style (Named (codes "case") number ∷ Named (codes "pieces") (length case.pieces) ∷ [])
    ++ wrong_to style claim case (length claim.servers)

-- the same of the case that stands at this number, if there is one
abbrev pub case_at : Style → ClaimData → ℕ → Option CaseData → List ℕ
case_at style claim number None = []
case_at style claim number (Some case) = case_lines style claim number case

-- the lines of the first of so many cases
abbrev pub cases_to : Style → ClaimData → List CaseData → ℕ → List ℕ
cases_to style claim cases zero = []
cases_to style claim cases (suc number) =
    cases_to style claim cases number ++ case_at style claim number (slice_get cases number)

-- all of it
unfoldable pub covers_text :
    Style → ClaimData → List Exchange → CoverCertificateData → List ℕ
covers_text style claim xs certificate =
    flat_map (named_line style claim xs) certificate.conflicts
    ++ cases_to style claim certificate.cases (length certificate.cases)
