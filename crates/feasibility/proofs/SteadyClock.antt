-- Refutations of which the error never changes, among those of which it may drift.
use Rattle.feasibility.proofs.Common.{◌≡◌, ℕ, ℤ, ◌+ℤ◌, ◌-ℤ◌, ◌≤ℤ◌, false, List, Some, arith, slice_index_or, int_min, int_max, ints, clamps, slice_get-get_or, ClaimData, RefutationData, Exchange, low_mark, high_mark, IsPossible, AreCompatible, request_start, reply_end, is_liar, AdmitsError, Admits, IsRefuted, mark_of, IsRefutedWithDrift, ≤ℤ_trans, All-slice_get, compatible_in_order}
use Rattle.std.specs.Prelude.{slice_get}
use Rattle.error_marks.proofs.Rate.{without_drift}
use Rattle.feasibility.proofs.TrueExchanges.{true_at, all_true, marks_at, all_marks, all_pairs}

-- ---- one exchange, and one error

module _ (start end t2 t3 distance error : ℤ) where
  low_below : AdmitsError start end t2 t3 distance error → ((start -ℤ int_min t2 t3) -ℤ distance) ≤ℤ error
  low_below room = omega (arith, ints, clamps, room)

  high_above : AdmitsError start end t2 t3 distance error → error ≤ℤ ((end -ℤ int_max t2 t3) +ℤ distance)
  high_above room = omega (arith, ints, clamps, room)

  room_from : ((start -ℤ int_min t2 t3) -ℤ distance) ≤ℤ error → error ≤ℤ ((end -ℤ int_max t2 t3) +ℤ distance)
      → start ≤ℤ end → (t2 -ℤ distance) ≤ℤ (t3 +ℤ distance) → AdmitsError start end t2 t3 distance error
  room_from low high leaves receives = grind (arith, ints)

module _ (claim : ClaimData) (xs : List Exchange) (r : RefutationData) where
  module _ (refuted : IsRefuted claim xs r) where
    room_at : (k : ℕ) (x : Exchange) → slice_get xs k ≡ Some x → is_liar r.liars x.server ≡ false
        → Admits claim.reading r.error x
    room_at k x at true' =
        All-slice_get (λ y. is_liar r.liars y.server ≡ false → Admits claim.reading r.error y) xs k x
        refuted.admits at true'

    low_at : (k : ℕ) (x : Exchange) → slice_get xs k ≡ Some x → is_liar r.liars x.server ≡ false
        → (low_mark claim.reading x).error ≤ℤ r.error
    low_at k x at true' =
        low_below (request_start x claim.reading) (reply_end x claim.reading) x.t2 x.t3 x.distance r.error
        (room_at k x at true')

    high_at : (k : ℕ) (x : Exchange) → slice_get xs k ≡ Some x → is_liar r.liars x.server ≡ false
        → r.error ≤ℤ (high_mark claim.reading x).error
    high_at k x at true' =
        high_above (request_start x claim.reading) (reply_end x claim.reading) x.t2 x.t3 x.distance r.error
        (room_at k x at true')

    -- what is refuted with one error throughout is refuted with drift
    pub refuted_with_drift : IsRefutedWithDrift claim xs r
    refuted_with_drift = record {
      against = refuted.against;
      agree = record {
        possible = all_true (is_liar r.liars) xs (IsPossible claim.reading)
            (λ k x at true'. let room = room_at k x at true' in record {
              leaves_before_arrival = room.leaves_before_arrival;
              receives_before_answer = room.receives_before_answer;
            });
        compatible = all_pairs (is_liar r.liars) xs claim.drift_ppb claim.reading
            (λ i j x y at_i at_j true_x true_y.
            compatible_in_order claim.drift_ppb (low_mark claim.reading x) (high_mark claim.reading y)
            (≤ℤ_trans _ _ _ (low_at i x at_i true_x) (high_at j y at_j true_y)));
      };
      reading_low = all_marks (is_liar r.liars) xs (AreCompatible claim.drift_ppb (mark_of r))
          (high_mark claim.reading)
          (λ j y at_j true_y. compatible_in_order claim.drift_ppb (mark_of r) (high_mark claim.reading y)
          (high_at j y at_j true_y));
      reading_high = all_marks (is_liar r.liars) xs (λ low. AreCompatible claim.drift_ppb low (mark_of r))
          (low_mark claim.reading)
          (λ i x at_i true_x. compatible_in_order claim.drift_ppb (low_mark claim.reading x) (mark_of r)
          (low_at i x at_i true_x));
    }

  -- without a drift it is the other way too
  pub refuted_without_drift : claim.drift_ppb ≡ 0 → IsRefutedWithDrift claim xs r → IsRefuted claim xs r
  refuted_without_drift none refuted = record {
    against = refuted.against;
    admits = λ k d below true'.
        let x = slice_index_or xs k d in
        let at : slice_get xs k ≡ Some x = slice_get-get_or xs k d below in
        let possible = true_at (is_liar r.liars) xs (IsPossible claim.reading) k x refuted.agree.possible at true' in
        let low = marks_at (is_liar r.liars) xs (λ low. AreCompatible claim.drift_ppb low (mark_of r))
        (low_mark claim.reading) k x refuted.reading_high at true' in
        let high = marks_at (is_liar r.liars) xs (AreCompatible claim.drift_ppb (mark_of r))
        (high_mark claim.reading) k x refuted.reading_low at true' in
        room_from (request_start x claim.reading) (reply_end x claim.reading) x.t2 x.t3 x.distance r.error
        ((without_drift (low_mark claim.reading x) (mark_of r)).0 (rw none at low))
        ((without_drift (mark_of r) (high_mark claim.reading x)).0 (rw none at high))
        possible.leaves_before_arrival possible.receives_before_answer;
  }
