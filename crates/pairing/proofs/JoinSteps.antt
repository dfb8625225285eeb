-- One more reply joined with its request.
use Rattle.pairing.proofs.Common.{◌≡◌, ◌∙◌, ℕ, suc, ◌+◌, ◌≤◌, ◌<◌, List, [], ◌∷◌, ◌++◌, Bool, Result, Ok, Err, refl, sym, ap, length, arith, zero-add, append-nil, Option, Some, None, map, take, drop, get_or, length-append, take-append-drop, true≢false, count_by, IsOk, if◌then◌else◌, filter_map, cons_option, result_ok, filter_map-append, map-append, take_more, sum_by-append, Counts, Exchange, Refusal, Version, Leap, Stratum, Precision, ZeroStamp, NoRequest, Ambiguous, count_for, with_refusal, with_outcome, IsJoined, is_refused, is_warning, same_refusal, rules}
use Rattle.std.proofs.Math.Seq.{drop-cons}

abbrev Outcome : Type 0
Outcome = Result Exchange Refusal

length-kept : {Y : Type 0} (o : Option Y) (ys : List Y) (n : ℕ) → length ys ≤ n → length (cons_option o ys) ≤ suc n
length-kept None ys n h = omega arith
length-kept (Some y) ys n h = omega arith

-- no more are given than there are
pub length-filter_map : {X Y : Type 0} (h : X → Option Y) (xs : List X) → length (filter_map h xs) ≤ length xs
length-filter_map h [] = omega arith
length-filter_map h (x ∷ xs) = length-kept (h x) (filter_map h xs) (length xs) (length-filter_map h xs)

-- a reason counts its own replies alone
pub count_for-with_refusal : (refusal reason : Refusal) (counts : Counts) →
    count_for reason (with_refusal refusal counts) ≡ count_for reason counts +
    (if same_refusal refusal reason then 1 else 0)
count_for-with_refusal Version Version counts = refl
count_for-with_refusal Leap Leap counts = refl
count_for-with_refusal Stratum Stratum counts = refl
count_for-with_refusal Precision Precision counts = refl
count_for-with_refusal ZeroStamp ZeroStamp counts = refl
count_for-with_refusal NoRequest NoRequest counts = refl
count_for-with_refusal Ambiguous Ambiguous counts = refl
count_for-with_refusal _ _ counts = omega arith

pub count_by-push : {X : Type 0} (p : X → Bool) (xs : List X) (x : X) →
    count_by p (xs ++ x ∷ []) ≡ count_by p xs + (if p x then 1 else 0)
count_by-push p xs x =
    let f = λ (y : _). if p y then 1 else 0 in
    sum_by-append f xs (x ∷ []) ∙ ap (λ n. count_by p xs + n) (zero-add (f x))

-- a refusal leaves the other counts
pub record KeepsOthers (before after : Counts) : Type 0 where
  pub same_records : after.records ≡ before.records
  pub same_requests : after.requests ≡ before.requests
  pub same_replies : after.replies ≡ before.replies
  pub same_warnings : after.warnings ≡ before.warnings

pub keeps_others : (refusal : Refusal) (counts : Counts) → KeepsOthers counts (with_refusal refusal counts)
keeps_others Version counts = search rules
keeps_others _ counts = search rules

accepted : (reason : Refusal) (counts : Counts) (x : Exchange) →
    count_for reason (with_outcome (Ok x) counts) ≡ count_for reason counts
accepted Version counts x = refl
accepted _ counts x = refl

-- one more outcome
pub joined-push : (start counts : Counts) (outcomes : List Outcome) (exchanges : List Exchange) (o : Outcome) →
    IsJoined start outcomes exchanges counts →
    IsJoined start (outcomes ++ o ∷ []) (exchanges ++ filter_map result_ok (o ∷ [])) (with_outcome o counts)
joined-push start counts outcomes exchanges (Ok x) j = record {
  exchanges_are = ap (λ (xs : List Exchange). xs ++ x ∷ []) j.exchanges_are
      ∙ sym (filter_map-append result_ok outcomes (Ok x ∷ []));
  refused = λ reason.
      let same : count_for reason (with_outcome (Ok x) counts) ≡ count_for reason counts = accepted reason counts x in
      omega (arith, j.refused reason, count_by-push (is_refused reason) outcomes (Ok x), same);
  warned = omega (arith, j.warned, count_by-push is_warning exchanges x);
  same_records = j.same_records;
  same_requests = j.same_requests;
  same_replies = j.same_replies;
}
joined-push start counts outcomes exchanges (Err refusal) j =
    let others = keeps_others refusal counts in
    record {
      exchanges_are = rw (
        append-nil exchanges,
        filter_map-append result_ok outcomes (Err refusal ∷ []),
        append-nil (filter_map result_ok outcomes),
      ) j.exchanges_are;
      refused = λ reason. omega (
        arith,
        count_by-push (is_refused reason) outcomes (Err refusal),
        count_for-with_refusal refusal reason counts,
      );
      warned = rw (append-nil exchanges) (others.same_warnings ∙ j.warned);
      same_records = others.same_records ∙ j.same_records;
      same_requests = others.same_requests ∙ j.same_requests;
      same_replies = others.same_replies ∙ j.same_replies;
    }

some_given : (o : Outcome) (os : List Outcome) → IsOk o → 1 ≤ length (filter_map result_ok (o ∷ os))
some_given (Ok x) os h = omega arith
some_given (Err refusal) os h = absurd (true≢false (sym h))

module _ {W : Type 0} (f : W → Outcome) (xs : List W) (i : ℕ) (d : W) (more : i < length xs) where
  -- one more is taken
  pub outcomes-more : map f (take (i + 1) xs) ≡ map f (take i xs) ++ f (get_or xs i d) ∷ []
  outcomes-more = ap (map f) (take_more xs i d more) ∙ map-append f (take i xs) (get_or xs i d ∷ [])

  -- an exchange beyond the most
  pub too_many : (most : ℕ) (exchanges : List Exchange) → exchanges ≡ filter_map result_ok (map f (take i xs)) →
      IsOk (f (get_or xs i d)) → length exchanges ≡ most → most < length (filter_map result_ok (map f xs))
  too_many most exchanges is ok full =
      let before = map f (take i xs) in
      let after = f (get_or xs i d) ∷ map f (drop (suc i) xs) in
      let split : map f xs ≡ before ++ after =
      ap (map f) (sym (take-append-drop i xs)) ∙ map-append f (take i xs) (drop i xs)
      ∙ ap (λ ys. before ++ map f ys) (drop-cons xs i d more) in
      omega (
        arith,
        ap (λ os. length (filter_map result_ok os)) split,
        ap length (filter_map-append result_ok before after),
        length-append (filter_map result_ok before) (filter_map result_ok after),
        some_given (f (get_or xs i d)) (map f (drop (suc i) xs)) ok,
        ap length is,
      )
