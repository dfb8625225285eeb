-- The texts of `settle` if it prints neither a certificate nor a refutation.
use Rattle.std.specs.Prelude.{ℕ, ℤ, Option, Some, List, [], ◌∷◌, ◌++◌, codes, flat_map, slice_get}
use Rattle.audit_text.specs.Common.{line_of, Word, Named, Number, Address, TimeBelow, TimeAbove, Style, ClaimData, group_count, ShownConflict, Hull, Exchange}
use Rattle.audit_text.specs.SampleLine.{server_of}
use Rattle.audit_text.specs.Table.{for_person, hull_high, hull_low}

-- how many of the groups have a sample, and how many may be false
unfoldable pub evidence_text : Style → ClaimData → ℕ → List ℕ
evidence_text style claim groups = line_of style (
    Word (codes "no evidence") ∷ Named (codes "groups") groups ∷
    Named (codes "of") (group_count claim.groups) ∷
    Named (codes "false_max") claim.false_max ∷ [])

-- the begin and the end of a piece that stays open, in ticks, rounded outward for a person, and the
-- hull there
unfoldable pub open_text : Style → ℤ → ℤ → Hull → List ℕ
open_text style begin end hull = line_of style (
    Word (codes "open") ∷ TimeBelow begin ∷ TimeAbove end ∷
    Word (codes "hull") ∷ hull_low hull ∷ hull_high hull ∷ [])

-- Two exchanges that can't both be of true servers: the server of the one and the number of its
-- request's record, the server of the other and the number of its reply's record; for a person with
-- the records' times. The window of a record begins at or before its time by less than a
-- nanosecond, so the nanosecond at or above its begin is its time.
unfoldable pub pair_line : Style → ClaimData → Exchange → Exchange → List ℕ
pair_line style claim low high = line_of style (
    Word (codes "conflict") ∷ Address (server_of claim low.server) ∷
    for_person style (Word (codes "request")) ∷ Number low.request ∷
    for_person style (Word (codes "at")) ∷ for_person style (TimeAbove low.t1_low) ∷
    Address (server_of claim high.server) ∷
    for_person style (Word (codes "reply")) ∷ Number high.reply ∷
    for_person style (Word (codes "at")) ∷ for_person style (TimeAbove high.t4_low) ∷ [])

-- the line of two exchanges, if both are there
abbrev pub found_line : Style → ClaimData → Option Exchange → Option Exchange → List ℕ
found_line style claim (Some low) (Some high) = pair_line style claim low high
found_line style claim _ _ = []

-- the line of a conflict, whose exchanges go by their numbers
abbrev pub conflict_line : Style → ClaimData → List Exchange → ShownConflict → List ℕ
conflict_line style claim xs conflict =
    found_line style claim (slice_get xs conflict.pair.low) (slice_get xs conflict.pair.high)

-- every conflict, and that no course of events fits
unfoldable pub conflicts_text :
    Style → ClaimData → List Exchange → List ShownConflict → List ℕ
conflicts_text style claim xs conflicts =
    flat_map (conflict_line style claim xs) conflicts ++
    line_of style (Word (codes "nothing fits") ∷ [])
