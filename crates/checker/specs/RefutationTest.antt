-- Whether a refutation is accepted, as a test.
use Rattle.std.specs.Prelude.{ℕ, ◌==◌, ℤ, pos, ◌+ℤ◌, ◌-ℤ◌, unsigned_abs, int_le, int_lt, nat_le, nat_lt, Bool, true, ◌&&◌, ◌||◌, not, List, [], ◌∷◌, length}
use Rattle.checker.specs.Common.{list_all, list_any, RefutationData, ClaimData, Exchange, request_start, reply_end}
use Rattle.checker.specs.Groups.{false_group_count}
use Rattle.checker.specs.Refutation.{is_liar}

-- the request can leave in time, if it leaves no sooner than this
abbrev pub leaves_in_time : ℤ → ℤ → ℤ → ℤ → Bool
leaves_in_time leaves receipt_high answer_high arrives =
    int_le leaves receipt_high && int_le leaves answer_high && int_le leaves arrives

-- the server can receive and answer in time, if the reply arrives no later than this
abbrev pub answers_in_time : ℤ → ℤ → ℤ → ℤ → Bool
answers_in_time receipt_low answer_low answer_high arrives =
    int_le receipt_low answer_high && int_le receipt_low arrives && int_le answer_low arrives

abbrev pub admits : ℤ → ℤ → Exchange → Bool
admits allowance error x =
    leaves_in_time (request_start x allowance -ℤ error) (x.t2 +ℤ x.distance) (x.t3 +ℤ x.distance)
    (reply_end x allowance -ℤ error)
    && answers_in_time (x.t2 -ℤ x.distance) (x.t3 -ℤ x.distance) (x.t3 +ℤ x.distance)
    (reply_end x allowance -ℤ error)

-- an exchange is of a server that is named, or leaves room for the error
abbrev pub allows : ℤ → RefutationData → Exchange → Bool
allows allowance refutation x =
    is_liar refutation.liars x.server || admits allowance refutation.error x

-- no number stands twice in a list
abbrev pub are_different : List ℕ → Bool
are_different [] = true
are_different (x ∷ xs) = not (list_any (λ y. y == x) xs) && are_different xs

-- the error is beyond the bound, and the reading in the span
abbrev pub is_outside : ClaimData → RefutationData → Bool
is_outside claim refutation =
    int_lt claim.bound (pos (unsigned_abs refutation.error))
    && int_le claim.first (pos refutation.reading) && int_le (pos refutation.reading) claim.last

-- these servers are listed, each is named once, and all of them may be false
abbrev pub may_be_false : ClaimData → List ℕ → Bool
may_be_false claim liars =
    list_all (λ liar. nat_lt liar (length claim.servers)) liars && are_different liars
    && nat_le (false_group_count claim.groups (is_liar liars)) claim.false_max

abbrev pub is_against : ClaimData → RefutationData → Bool
is_against claim refutation =
    is_outside claim refutation && may_be_false claim refutation.liars

abbrev pub is_refuted : ClaimData → List Exchange → RefutationData → Bool
is_refuted claim xs refutation =
    is_against claim refutation && list_all (allows claim.reading refutation) xs
