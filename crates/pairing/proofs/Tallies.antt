-- Sums of counts.
use Rattle.std.proofs.lemmas.Int.{ints}
use Rattle.pairing.proofs.Common.{◌≡◌, ℕ, ◌+◌, List, [], ◌∷◌, Result, Ok, Err, refl, length, arith, if◌then◌else◌, cons_option, filter_map, result_ok, Record, ClaimData, Exchange, Refusal, Version, Leap, Stratum, Precision, ZeroStamp, NoRequest, Ambiguous, replies_of, outcomes_of, is_refused, refused_for, exchanges_of, nat_tests, common_steps}
use Rattle.pairing.proofs.Exactness.{count_by-cons}

abbrev Outcome : Type 0
Outcome = Result Exchange Refusal

-- how many are refused for any reason
abbrev refused_in_all : List Outcome → ℕ
refused_in_all os =
    refused_for Version os + refused_for Leap os + refused_for Stratum os + refused_for Precision os + refused_for
    ZeroStamp os + refused_for NoRequest os
    + refused_for Ambiguous os

abbrev one_for : Refusal → Outcome → ℕ
one_for reason o = if is_refused reason o then 1 else 0

one_each : (o : Outcome) (os : List Exchange) →
    one_for Version o + one_for Leap o + one_for Stratum o + one_for Precision o + one_for ZeroStamp o + one_for
    NoRequest o + one_for Ambiguous o
    + length (cons_option (result_ok o) os) ≡ 1 + length os
one_each (Ok x) os = omega arith
one_each (Err Version) os = omega arith
one_each (Err _) os = omega arith

each_once : (os : List Outcome) → length os ≡ refused_in_all os + length (filter_map result_ok os)
each_once [] = refl
each_once (o ∷ os) =
    omega (
      arith,
      each_once os,
      one_each o (filter_map result_ok os),
      count_by-cons (is_refused Version) o os,
      count_by-cons (is_refused Leap) o os,
      count_by-cons (is_refused Stratum) o os,
      count_by-cons (is_refused Precision) o os,
      count_by-cons (is_refused ZeroStamp) o os,
      count_by-cons (is_refused NoRequest) o os,
      count_by-cons (is_refused Ambiguous) o os,
    )

pub replies_counted : (claim : ClaimData) (records : List Record) → length (replies_of claim records)
    ≡ refused_in_all (outcomes_of claim records) + length (exchanges_of claim records)
unfolding exchanges_of
replies_counted claim records = grind (arith, ints, nat_tests, common_steps, each_once)
