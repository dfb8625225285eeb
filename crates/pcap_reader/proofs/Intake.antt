-- Bytes that were pulled from a feed, after those that were held.
use Rattle.std.proofs.lemmas.Grind.{common_steps}
use Rattle.std.proofs.lemmas.Bool.Decides.{nat_tests}
use Rattle.std.proofs.lemmas.Int.{ints}
use Rattle.pcap_reader.proofs.Common.{◌≡◌, ◌+◌, ◌-◌, ◌≤◌, ℕ, List, Result, [], ◌++◌, length, Option, Some, None, ap, ◌∙◌, arith, append_assoc, append-nil, length-append, length-take, length-drop, Consumes, Keeps, prepend_known, FeedState, Buffered, Pulls, Refills, held_bytes, last_bytes, still_has, supply_of, TakesFrom}
use Rattle.std.proofs.KnownBytes.{Consumes-nil}
use Rattle.byte_stream.specs.declared.feed.FeedFault.{FeedFault}

pub Pulls-none : (a : FeedState) (held held' : List ℕ) → held' ≡ held → Pulls a a held held'
Pulls-none a held held' same = grind (arith, Consumes-nil, append-nil)

-- one pull more
pub Pulls-more : (a b c : FeedState) (held held' held'' part : List ℕ) → Pulls a b held held' →
    Consumes b.remaining c.remaining part → c.taken ≤ b.taken + length part → held'' ≡ held' ++ part →
    Pulls a c held held''
Pulls-more a b c held held' held'' part p consumed counted joined = grind (arith, ints, nat_tests, common_steps)

keeps : (a b : Option (List ℕ)) (pulled held held' : List ℕ) → Consumes a b pulled → held' ≡ held ++ pulled →
    Keeps (prepend_known held a) (prepend_known held' b)
keeps None b pulled held held' consumed joined = tt
keeps (Some x) None pulled held held' consumed joined = absurd consumed
keeps (Some x) (Some y) pulled held held' consumed joined = grind (arith, append_assoc)

-- what is still to come stays known, over one refill and over two
pub refilled : {F : Type 0} (state : F → FeedState) (a b : Buffered F) →
    Pulls (state a.feed) (state b.feed) (held_bytes a) (held_bytes b) → Keeps (still_has state a) (still_has state b)
refilled state a b p = grind (arith, keeps)

pub refilled_twice : {F : Type 0} (state : F → FeedState) (a b c : Buffered F) →
    Pulls (state a.feed) (state b.feed) (held_bytes a) (held_bytes b) →
    Pulls (state b.feed) (state c.feed) (held_bytes b) (held_bytes c) → Keeps (still_has state a) (still_has state c)
refilled_twice state a b c p q = grind (arith, ints, nat_tests, common_steps, refilled)

-- so many bytes are held
pub length-held : {F : Type 0} (b : Buffered F) → length (held_bytes b) ≡ b.end - b.start
length-held b = grind (arith, length-take, length-drop)

-- what was pulled was taken of what might be
pub Refills-takes : {F : Type 0} (state : F → FeedState) (wanted : ℕ) (old : Buffered F)
    (result : Result (Unit {0}) FeedFault) (new : Buffered F) → Refills state wanted old result new →
    TakesFrom (supply_of state old) (supply_of state new)
Refills-takes state wanted old result new h =
    grind (
      arith,
      ap length h.pulls.joined ∙ length-append (held_bytes old) h.pulls.pulled,
      length-held old,
      length-held new,
    )

-- no bytes are the last 0 that were consumed
pub last-none : {F : Type 0} (b : Buffered F) → last_bytes b 0 ≡ []
last-none b = grind arith
