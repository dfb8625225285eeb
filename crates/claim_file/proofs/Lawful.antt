-- A claim that is read is lawful.
use Rattle.claim_file.proofs.Common.{◌≡◌, ◌≢◌, ℕ, zero, suc, ◌^◌, ◌<◌, ◌≤◌, true, false, List, [], ◌∷◌, length, Option, Some, Result, Ok, Err, sym, ◌∙◌, subst, arith, true≢false, and_parts, leb-true, not-true, ints, bytes_eq-Decides, given_by, All, AllPairs, IfOk, list_any, bytes_eq, floor_of, ceiling_of, ticks_down, ticks_up, ClaimFault, Groups, address_of, addresses_of, are_different, ClaimData, IsLawful, IsWithoutGap, max_bound, max_bound_ns, with_bound, given, Answers, FieldsData, groups_of, NamedData, named_of, is_in_range, claim_with, claim_from, claim_of, time_of}
use Rattle.std.proofs.lemmas.List.Folds.{list_any_at}
use Rattle.claim_file.proofs.Groupings.{groups_of-range, groups_of-without_gap}
use Rattle.claim_file.proofs.Made.{IsMade, claim_made, fields_made}
use Rattle.claim_file.proofs.Times.{IsTime-time_of}

-- a bound of at most 10^15 nanoseconds has at most so many ticks, an allowance of at most a second 2^32
bound_ticks : (n : ℕ) → n ≤ 1000000000000000 → ticks_down n ≤ max_bound
unfolding ticks_down floor_of
bound_ticks n few = omega arith

reading_ticks : (n : ℕ) → n ≤ 1000000000 → ticks_up n ≤ 2 ^ 32
unfolding ticks_up ceiling_of
reading_ticks n few = omega arith

-- what the tests say
in_range_parts : (f : FieldsData) (named : NamedData) → is_in_range f named ≡ true →
    (1 ≤ length named.servers) × (length named.servers ≤ 32) × (f.false_max ≤ 31) × (named.first ≤ named.last)
    × (f.bound_ns ≤ 1000000000000000) × (f.drift_ppb ≤ 500000000) × (f.reading_ns ≤ 1000000000)
in_range_parts f named e =
    let (e6, reading) = and_parts _ _ e in
    let (e5, drift) = and_parts _ _ e6 in
    let (e4, bound) = and_parts _ _ e5 in
    let (e3, forward) = and_parts _ _ e4 in
    let (e2, few_false) = and_parts _ _ e3 in
    let (some, few) = and_parts _ _ e2 in (
      leb-true _ _ some,
      leb-true _ _ few,
      leb-true _ _ few_false,
      leb-true _ _ forward,
      leb-true _ _ bound,
      leb-true _ _ drift,
      leb-true _ _ reading,
    )

-- the addresses
not_any : (x : List ℕ) (xs : List (List ℕ)) → list_any (λ o. bytes_eq o x) xs ≡ false → All (λ o. o ≢ x) xs
not_any x xs e k d less same =
    true≢false (sym (list_any_at (λ o. bytes_eq o x) xs k d less ((bytes_eq-Decides _ x).1 same)) ∙ e)

differ_pairs : (xs : List (List ℕ)) → are_different xs ≡ true → AllPairs (λ a b. a ≢ b) xs
differ_pairs [] e i j d before less = absurd (omega arith)
differ_pairs (x ∷ xs) e zero zero d before less = absurd (omega arith)
differ_pairs (x ∷ xs) e zero (suc j) d before less =
    let apart = not_any x xs (not-true _ (and_parts _ _ e).0) j d (omega arith) in
    λ same. apart (sym same)
differ_pairs (x ∷ xs) e (suc i) zero d before less = absurd (omega arith)
differ_pairs (x ∷ xs) e (suc i) (suc j) d before less =
    differ_pairs xs (and_parts _ _ e).1 i j d (omega arith) (omega arith)

-- the claim of members within their limits
pub claim_with_lawful : (f : FieldsData) (named : NamedData) (groups : List ℕ) →
    is_in_range f named ≡ true → are_different (named.client ∷ named.servers) ≡ true →
    groups_of (length named.servers) f.groups ≡ Some groups → named.last < 2 ^ 32 →
    IsLawful (claim_with f named groups)
claim_with_lawful f named groups ranges differ grouped small =
    let (some, few, few_false, forward, bound, drift, reading) = in_range_parts f named ranges in
    let (apart, others) = and_parts _ _ differ in
    let (each, below) = groups_of-range (length named.servers) f.groups groups some grouped in
    let bound_small = bound_ticks f.bound_ns bound in
    let reading_small = reading_ticks f.reading_ns reading in
    record {
      some_server = some;
      few_servers = few;
      addresses_differ = differ_pairs named.servers others;
      client_is_no_server = not_any named.client named.servers (not-true _ apart);
      group_for_each = each;
      groups_in_range = below;
      few_false = few_false;
      span_begins = omega (arith, ints);
      span_forward = omega (arith, ints);
      span_ends = omega (arith, ints);
      bound_not_negative = omega (arith, ints);
      bound_in_range = omega (arith, ints);
      bound_ns_in_range = bound;
      drift_in_range = drift;
      reading_not_negative = omega (arith, ints);
      reading_in_range = omega (arith, ints);
      reading_ns_in_range = reading;
    }

-- groups that were read are those that the lists say
pub groups_given : {A : Type 0} (groups : Option A) (read : A) → given Groups groups Ok ≡ Ok read → groups ≡ Some read
groups_given groups read e = grind arith

-- the last second of the span is one of the 2^32
named_small : (f : FieldsData) (named : NamedData) → named_of f ≡ Ok named → named.last < 2 ^ 32
named_small f named e =
    let (client, _, a) = given_by _ (address_of f.client) _ e in
    let (servers, _, b) = given_by _ (addresses_of f.servers) _ a in
    let (first, _, d) = given_by _ (time_of f.begin) _ b in
    let (last, says, is) = given_by _ (time_of f.end) _ d in
    let same : last ≡ named.last = cc in
    omega (arith, (IsTime-time_of f.end last says).in_range, same)

-- what the bytes of a claim say is lawful
made-lawful : (claim : ClaimData) → IsMade claim → IsLawful claim × IsWithoutGap claim.groups
made-lawful claim made =
    subst (λ c. IsLawful c × IsWithoutGap c.groups) made.is (
      claim_with_lawful made.fields made.named made.groups made.ranges made.differ made.grouped
          (named_small made.fields made.named made.names),
      groups_of-without_gap (length made.named.servers) made.fields.groups made.groups made.grouped,
    )

pub claim_of-lawful : (bytes : List ℕ) (claim : ClaimData) → claim_of bytes ≡ Ok claim →
    IsLawful claim × IsWithoutGap claim.groups
claim_of-lawful bytes claim e = made-lawful claim (claim_made bytes claim e)

-- so is a claim that was read
pub numbered_read : {A : Type 0} (answer : Result A ClaimFault) (shown : A → ClaimData) (f : FieldsData) →
    Answers answer shown (claim_from f) → IfOk answer (λ claim. IsWithoutGap (shown claim).groups)
numbered_read (Ok claim) shown f exact = (made-lawful (shown claim) (fields_made f (shown claim) exact)).1
numbered_read (Err fault) shown f exact = tt

-- the same claim with another bound
pub with_bound_lawful : (c : ClaimData) (n : ℕ) → IsLawful c → n ≤ max_bound_ns → IsLawful (with_bound c n)
with_bound_lawful c n is few = record {
  some_server = is.some_server;
  few_servers = is.few_servers;
  addresses_differ = is.addresses_differ;
  client_is_no_server = is.client_is_no_server;
  group_for_each = is.group_for_each;
  groups_in_range = is.groups_in_range;
  few_false = is.few_false;
  span_begins = is.span_begins;
  span_forward = is.span_forward;
  span_ends = is.span_ends;
  bound_not_negative = omega (arith, ints);
  bound_in_range = omega (arith, ints, bound_ticks n few);
  bound_ns_in_range = few;
  drift_in_range = is.drift_in_range;
  reading_not_negative = is.reading_not_negative;
  reading_in_range = is.reading_in_range;
  reading_ns_in_range = is.reading_ns_in_range;
}
