-- From what was gathered to the answer.
use Rattle.std.proofs.lemmas.Int.{ints}
use Rattle.pairing.proofs.Common.{◌≡◌, ℕ, ◌≤◌, List, Option, Some, None, Result, Ok, Err, ap, inl, inr, length, arith, IfOk, IfSome, MatchResult, filter, nat_lt, ◌⊎◌, if◌then◌else◌, nat_tests, length-map, count_by-le-length, length-filter, Record, most_records, Coming, SourceState, ClaimData, Counts, Exchange, PairFault, Memory, TooManyExchanges, CompactExchange, IndexedRequest, IsAnswerTo, LeavesSource, MayAnswer, answer_of, capture_failed, device_failed, AreLawful, most_exchanges, IsGatheredFrom, is_accepted, HasRoom, compact_data, compact_of, reply_of, Collection, collection_of, exchanges_of, replies_of, IsWhole, rules}
use Rattle.std.specs.Prelude.{Bool, true, false}
use Rattle.pairing.specs.declared.compact.CompactCollection.{CompactCollection}
use Rattle.pairing.proofs.JoinSteps.{length-filter_map}
use Rattle.pairing.proofs.ReadingSteps.{HasRoom-weaker, gathered-room}

-- what is gathered leaves room to count what becomes of each reply
pub joining-room : (claim : ClaimData) (records : List Record) (kept : List IndexedRequest)
    (held : List CompactExchange) (counts : Counts) →
    length records ≤ most_records → IsGatheredFrom claim records kept held counts →
    HasRoom counts (length held)
unfolding replies_of
joining-room claim records kept held counts few g =
    let replies = replies_of claim records in
    let fewer : length held ≤ length records =
    omega (
      arith,
      ap length g.holds,
      length-map (filter is_accepted replies) compact_of,
      length-filter is_accepted replies,
      count_by-le-length is_accepted replies,
      length-filter_map (reply_of claim) records,
    ) in
    HasRoom-weaker counts most_records (length held) (omega (arith, fewer, few))
    (gathered-room claim records kept held counts g few)

-- what is joined of the records of a whole capture is what is collected of them
abbrev IsCollected : ClaimData → List Record → Result CompactCollection PairFault → Type 0
IsCollected claim records r =
    MatchResult r (λ held. collection_of claim records ≡ Ok (compact_data held)) (λ fault.
    (fault ≡ Memory) ⊎ (collection_of claim records ≡ Err fault))

-- the answer to a whole source is what is collected of its records
pub answer-whole : (claim : ClaimData) (remaining : Option Coming) (records : List Record)
    (r : Result CompactCollection PairFault) → IfSome remaining (IsWhole records) → IsCollected claim records r →
    IfSome remaining (IsAnswerTo compact_data claim r)
unfolding answer_of
answer-whole claim None records r whole exact = tt
answer-whole claim (Some coming) records (Ok held) (are, ends) exact = rw (ends, are) exact
answer-whole claim (Some coming) records (Err fault) (are, ends) (inl no_memory) = grind (arith, ints, nat_tests)
answer-whole claim (Some coming) records (Err fault) (are, ends) (inr refused) = inr (rw (ends, are) refused)

collection-fault : (claim : ClaimData) (records : List Record) (fault : PairFault) →
    collection_of claim records ≡ Err fault → fault ≡ TooManyExchanges
unfolding collection_of
collection-fault claim records fault is = search rules

-- a fault that is no device's and none of the capture's
left_as_it_was : (old new : SourceState) (fault : PairFault) → LeavesSource {X = Unit {0}} old (Ok tt) new →
    MayAnswer fault → device_failed {X = CompactCollection} (Err fault) ≡ false →
    capture_failed {X = CompactCollection} (Err fault) ≡ false
    → LeavesSource {X = CompactCollection} old (Err fault) new
left_as_it_was old new fault leaves may device capture = search rules

-- what is joined leaves the source alone
pub leaves-whole : (claim : ClaimData) (records : List Record) (old new : SourceState)
    (r : Result CompactCollection PairFault) → LeavesSource {X = Unit {0}} old (Ok tt) new →
    IsCollected claim records r →
    LeavesSource old r new
leaves-whole claim records old new (Ok held) leaves exact = search rules
leaves-whole claim records old new (Err fault) leaves (inl no_memory) = grind (arith, ints, nat_tests, left_as_it_was)
leaves-whole claim records old new (Err fault) leaves (inr refused) =
    grind (arith, ints, nat_tests, collection-fault, left_as_it_was)

not_above : (a b : ℕ) → nat_lt a b ≡ false → b ≤ a
not_above a b h = grind (arith, nat_tests)

limited-parts : (many : Bool) (xs : List Exchange) (counts : Counts) (c : Collection) →
    (if many then Err TooManyExchanges else Ok (record { exchanges = xs; counts = counts })) ≡ Ok c →
    (c.exchanges ≡ xs) × (many ≡ false)
limited-parts true xs counts c is = absurd cc
limited-parts false xs counts c is = search rules

pub lawful-whole : (claim : ClaimData) (records : List Record) (r : Result CompactCollection PairFault) →
    (length (exchanges_of claim records) ≤ most_exchanges →
    AreLawful (length claim.servers) (exchanges_of claim records)) → IsCollected claim records r →
    IfOk r (λ held. AreLawful (length claim.servers) (compact_data held).exchanges)
unfolding collection_of
lawful-whole claim records (Ok held) lawful exact = grind (arith, ints, nat_tests, limited-parts, not_above)
lawful-whole claim records (Err fault) lawful exact = tt
