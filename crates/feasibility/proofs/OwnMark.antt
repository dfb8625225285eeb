-- A refutation's own mark among the others, and what it refutes besides.
use Rattle.feasibility.proofs.Common.{ℕ, ◌≤◌, ℤ, pos, ◌≤ℤ◌, unsigned_abs, List, ◌∷◌, All, slice_index_or, All-cons, All-head, All-tail, RefutationData, ClaimData, Exchange, Mark, AreCompatible, is_liar, low_marks, high_marks, mark_of, IsRefutedWithDrift, IsRefutedByMarks, ≤ℤ-<ℤ_trans}
use Rattle.error_marks.proofs.Rate.{faster}
use Rattle.sample_interval.specs.Widening.{IsRate}
use Rattle.feasibility.proofs.LowestMarks.{with_itself}

module _ (claim : ClaimData) (xs : List Exchange) (r : RefutationData) where
  abbrev lows : List Mark
  lows = low_marks claim.reading (is_liar r.liars) xs

  abbrev highs : List Mark
  highs = high_marks claim.reading (is_liar r.liars) xs

  pub among_others : IsRefutedWithDrift claim xs r → IsRefutedByMarks claim xs r
  among_others refuted = record {
    against = refuted.against;
    possible = refuted.agree.possible;
    compatible = All-cons (λ low. All (AreCompatible claim.drift_ppb low) (mark_of r ∷ highs)) (mark_of r) lows
        (All-cons (AreCompatible claim.drift_ppb (mark_of r)) (mark_of r) highs
        (with_itself claim.drift_ppb (mark_of r)) refuted.reading_low)
        (λ k d below. All-cons (AreCompatible claim.drift_ppb (slice_index_or lows k d)) (mark_of r) highs
        (refuted.reading_high k d below) (refuted.agree.compatible k d below));
  }

  pub from_others : IsRefutedByMarks claim xs r → IsRefutedWithDrift claim xs r
  from_others refuted =
      let own = All-head (λ low. All (AreCompatible claim.drift_ppb low) (mark_of r ∷ highs)) (mark_of r) lows
      refuted.compatible in
      let others = All-tail (λ low. All (AreCompatible claim.drift_ppb low) (mark_of r ∷ highs)) (mark_of r) lows
      refuted.compatible in
      record {
        against = refuted.against;
        agree = record {
          possible = refuted.possible;
          compatible = λ k d below. All-tail (AreCompatible claim.drift_ppb (slice_index_or lows k d)) (mark_of r) highs
              (others k d below);
        };
        reading_low = All-tail (AreCompatible claim.drift_ppb (mark_of r)) (mark_of r) highs own;
        reading_high = λ k d below. All-head (AreCompatible claim.drift_ppb (slice_index_or lows k d)) (mark_of r) highs
            (others k d below);
      }

-- ---- a faster drift, and a narrower bound

pub refuted_with_more : (claim : ClaimData) (narrower : ℤ) (fast : ℕ) (xs : List Exchange) (r : RefutationData)
    → narrower ≤ℤ claim.bound → claim.drift_ppb ≤ fast → IsRate fast → IsRefutedWithDrift claim xs r
    → IsRefutedWithDrift (record claim { bound = narrower; drift_ppb = fast }) xs r
refuted_with_more claim narrower fast xs r less le rate refuted =
    let against = refuted.against in
    let more : (low high : Mark) → AreCompatible claim.drift_ppb low high → AreCompatible fast low high =
    λ low high. faster claim.drift_ppb fast low high le rate in
    record {
      against = record {
        beyond_bound = ≤ℤ-<ℤ_trans narrower claim.bound (pos (unsigned_abs r.error)) less against.beyond_bound;
        in_span = against.in_span;
        liars_listed = against.liars_listed;
        liars_differ = against.liars_differ;
        few_false = against.few_false;
      };
      agree = record {
        possible = refuted.agree.possible;
        compatible = λ i d below_i j e below_j. more _ _ (refuted.agree.compatible i d below_i j e below_j);
      };
      reading_low = λ j e below_j. more _ _ (refuted.reading_low j e below_j);
      reading_high = λ i d below_i. more _ _ (refuted.reading_high i d below_i);
    }
