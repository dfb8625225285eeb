-- Whether a refutation with drift is accepted, as a test.
use Rattle.std.specs.Prelude.{ℕ, ◌+◌, ◌-◌, ℤ, pos, ◌+ℤ◌, ◌-ℤ◌, ◌*ℤ◌, int_le, Bool, ◌&&◌, List, [], ◌∷◌, if◌then◌else◌}
use Rattle.feasibility.specs.Common.{list_all, RefutationData, is_liar, is_against, ClaimData, Mark, Exchange, billion, request_start, reply_end}
use Rattle.feasibility.specs.DriftRefutation.{mark_of}
use Rattle.feasibility.specs.TrueMarks.{true_exchanges, low_marks, high_marks}

-- an exchange is possible by itself
abbrev pub is_possible : ℤ → Exchange → Bool
is_possible allowance x =
    int_le (request_start x allowance) (reply_end x allowance)
    && int_le (x.t2 -ℤ x.distance) (x.t3 +ℤ x.distance)

-- a low mark and a high mark are compatible
abbrev pub are_compatible : ℕ → Mark → Mark → Bool
are_compatible ppb low high =
    if int_le low.place high.place
    then int_le (pos (billion - ppb) *ℤ (low.error -ℤ high.error))
    (pos ppb *ℤ (high.place -ℤ low.place))
    else int_le (pos (billion + ppb) *ℤ (low.error -ℤ high.error))
    (pos ppb *ℤ (low.place -ℤ high.place))

-- each low mark is compatible with each high mark
abbrev pub all_compatible : ℕ → List Mark → List Mark → Bool
all_compatible ppb lows highs = list_all (λ low. list_all (are_compatible ppb low) highs) lows

-- with just the liars false, no exchange is impossible, and no two marks contradict each other, the
-- refutation's own among them
abbrev pub do_agree : ClaimData → List Exchange → RefutationData → Bool
do_agree claim xs refutation =
    let is_false = is_liar refutation.liars in
    list_all (is_possible claim.reading) (true_exchanges is_false xs)
    && all_compatible claim.drift_ppb
    (mark_of refutation ∷ low_marks claim.reading is_false xs)
    (mark_of refutation ∷ high_marks claim.reading is_false xs)

-- with no server false, no exchange is impossible, and no two marks contradict each other
abbrev pub do_all_agree : ClaimData → List Exchange → Bool
do_all_agree claim xs =
    list_all (is_possible claim.reading) (true_exchanges (is_liar []) xs)
    && all_compatible claim.drift_ppb (low_marks claim.reading (is_liar []) xs)
    (high_marks claim.reading (is_liar []) xs)

abbrev pub is_refuted_with_drift : ClaimData → List Exchange → RefutationData → Bool
is_refuted_with_drift claim xs refutation =
    is_against claim refutation && do_agree claim xs refutation
