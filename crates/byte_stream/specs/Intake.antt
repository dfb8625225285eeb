-- What is taken of a feed, a device too: the bytes of a device aren't known, but it counts them.
use Rattle.std.specs.Prelude.{◌≡◌, ◌+◌, ◌-◌, ◌^◌, ◌≤◌, ℕ, List, [], length, take, min, MatchResult, Result}
use Rattle.std.specs.Io.KnownBytes.{Consumes}
use Rattle.std.proofs.Common.{◌++◌, arith, length-append, length-take}
use Rattle.std.proofs.KnownBytes.{Consumes-nil, Consumes-trans}
use Rattle.byte_stream.specs.State.{FeedState}

-- A pull adds the bytes that it gave to the count, and none if it failed. At 2^64 - 1 the count
-- stays.
abbrev pub CountsBytes : {E : Type 0} → Result ℕ E → ℕ → ℕ → Type 0
CountsBytes result before after =
    MatchResult result (λ n. after ≡ min (before + n) (2 ^ 64 - 1)) (λ fault. after ≡ before)

-- what a pull counts are no more than the bytes that it put at the front of `into`
pub CountsBytes-front : (n before after : ℕ) (into : List ℕ) → n ≤ length into →
    after ≡ min (before + n) (2 ^ 64 - 1) → after ≤ before + length (take n into)
CountsBytes-front n before after into fits counts = omega (arith, length-take n into, counts)

-- At most this many bytes were taken: those at the front, if the bytes are known, and no more by
-- the feed's count, which a device keeps too. (Of a feed that has counted to 2^64 - 1 the count
-- says nothing.)
pub record TakesAtMost (most : ℕ) (before after : FeedState) : Type 0 where
  pub taken : List ℕ
  pub consumed : Consumes before.remaining after.remaining taken
  pub at_most : length taken ≤ most
  pub counted : after.taken ≤ before.taken + length taken

-- nothing was taken
pub TakesAtMost-none : (most : ℕ) (feed : FeedState) → TakesAtMost most feed feed
TakesAtMost-none most feed = record {
  taken = [];
  consumed = Consumes-nil feed.remaining;
  at_most = omega arith;
  counted = omega arith;
}

-- what one pull took
pub TakesAtMost-pull : (n : ℕ) (before after : FeedState) (into : List ℕ) → n ≤ length into →
    Consumes before.remaining after.remaining (take n into) →
    after.taken ≡ min (before.taken + n) (2 ^ 64 - 1) → TakesAtMost n before after
TakesAtMost-pull n before after into fits consumed counts = record {
  taken = take n into;
  consumed = consumed;
  at_most = omega (arith, length-take n into);
  counted = CountsBytes-front n before.taken after.taken into fits counts;
}

-- what was taken twice in a row
pub TakesAtMost-trans : (m n : ℕ) (first second third : FeedState) → TakesAtMost m first second →
    TakesAtMost n second third → TakesAtMost (m + n) first third
TakesAtMost-trans m n first second third p q = record {
  taken = p.taken ++ q.taken;
  consumed = Consumes-trans first.remaining second.remaining third.remaining p.taken q.taken
      p.consumed q.consumed;
  at_most = omega (arith, length-append p.taken q.taken, p.at_most, q.at_most);
  counted = omega (arith, length-append p.taken q.taken, p.counted, q.counted);
}

-- at most this many, and so at most more
pub TakesAtMost-weaker : (few many : ℕ) (before after : FeedState) → few ≤ many →
    TakesAtMost few before after → TakesAtMost many before after
TakesAtMost-weaker few many before after le p = record {
  taken = p.taken;
  consumed = p.consumed;
  at_most = omega (arith, p.at_most);
  counted = p.counted;
}
