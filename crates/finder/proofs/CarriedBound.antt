-- The least bound that a certificate carries.
use Rattle.finder.proofs.Common.{◌≡◌, inl, inr, ⊎_elim, ℕ, ◌+◌, ◌*◌, ◌<◌, ◌≤◌, ◌^◌, ℤ, pos, ◌≤ℤ◌, false, is_some, List, [], ◌∷◌, ◌++◌, length, length-append, Option, Some, None, Ok, refl, sym, ap, ◌∙◌, arith, rules, ints, nat_tests, clamps, MatchOption, ticks_down, CertificateData, PieceData, max_pieces, ClaimData, IsLawful, max_bound, max_bound_ns, Sample, piece_fault, verdict_after, verdict_from, verdict_of, Verdict, Yes, Why, FindsLeastBound, IsCarried, IsFirst, IsNeverEmpty, IsTick, StopsAt, with_bound, AreLongest, IsOfLongest, NoneOfFewIsAccepted, end_after, hull_over, next_tick, pieces_over, stretch_over, AreEnds, AreTablesFor, IsReach, AreSamplesOf}
use Rattle.era_unfold.proofs.NanosecondTicks.{IsFloor-ticks_down, ticks_down-mono}
use Rattle.checker.proofs.Comparison.{wider_bound}
use Rattle.sweep.specs.declared.table.BestTable.{BestTable}
use Rattle.finder.specs.declared.carried.LeastCarried.{LeastCarried}
use Rattle.finder.specs.declared.reach.Reach.{Reach}
use Rattle.finder.proofs.FewestPieces.{as_many_pieces, first_in_span, none_if_stuck, none_if_too_long, reached, yes_from}
use Rattle.finder.proofs.OneWay.{one_of_three}
use Rattle.finder.proofs.OtherBounds.{same_hull}

-- ---- what a claimed bound has no part in

pub samples_of_other : (samples : List Sample) (claim : ClaimData) (m : ℕ) → AreSamplesOf claim samples
    → AreSamplesOf (with_bound claim m) samples
samples_of_other samples claim m are = record { lawful = are.lawful; listed = are.listed }

pub lawful_with : (claim : ClaimData) (m : ℕ) → m ≤ max_bound_ns → IsLawful claim → IsLawful (with_bound claim m)
lawful_with claim m small lawful =
    let ticks : ticks_down m ≤ 1000000 * 2 ^ 32 = omega (arith, (IsFloor-ticks_down m).not_above) in
    let from : pos 0 ≤ℤ pos (ticks_down m) = omega (arith, ints) in
    let to : pos (ticks_down m) ≤ℤ pos max_bound = omega (arith, ints) in
    search rules

-- a tick ends no earlier than it begins
pub tick_forward : (samples : List Sample) (claim : ClaimData) → IsLawful claim → (p : ℤ) → IsTick claim p
    → p ≤ℤ next_tick samples claim p
tick_forward samples claim lawful p tick =
    ⊎_elim (λ first. omega (arith, ints, clamps)) (λ before. omega (arith, ints, clamps)) tick.begins

-- ---- the verdict has no part in how the bound is spelled in nanoseconds

module _ (samples : List Sample) (claim : ClaimData) (n : ℕ) where
  abbrev other : ClaimData
  other = record claim { bound_ns = n }

  same_fault : (p : ℤ) (piece : PieceData) → piece_fault samples other p piece ≡ piece_fault samples claim p piece
  same_fault p piece = grind (arith, ints, nat_tests, stretch_over p (pos piece.upto))

  same_verdict : (k : ℕ) (p : ℤ) (pieces : List PieceData)
      → verdict_from samples other k p pieces ≡ verdict_from samples claim k p pieces
  same_verdict k p [] = refl
  same_verdict k p (piece ∷ pieces) =
      ap (λ (f : Option Why). verdict_after f k (verdict_from samples other (k + 1) (pos piece.upto) pieces))
      (same_fault p piece)
      ∙ ap (λ (v : Verdict). verdict_after (piece_fault samples claim p piece) k v)
      (same_verdict (k + 1) (pos piece.upto) pieces)

-- ---- of tables and of the pieces that they give

tables_for_other : (samples : List Sample) (claim : ClaimData) (m : ℕ) (tables : List BestTable)
    → AreTablesFor samples claim tables → AreTablesFor samples (with_bound claim m) tables
tables_for_other samples claim m tables tabled = search (rules, samples_of_other)

pub reached_by : (samples : List Sample) (claim : ClaimData) (m : ℕ) (other : ClaimData) (tables : List BestTable)
    (reach : Reach) → other ≡ with_bound claim m → (AreTablesFor samples other tables → IsReach samples other reach)
    → AreTablesFor samples claim tables → IsReach samples (with_bound claim m) reach
reached_by samples claim m other tables reach same reaches tabled =
    (rw same at reaches) (tables_for_other samples claim m tables tabled)

pub carried_by_ends : (samples : List Sample) (claim : ClaimData) (ends : List ℤ) → AreEnds samples claim ends
    → IsCarried samples claim
carried_by_ends samples claim ends is = (
  record { pieces = pieces_over samples claim claim.first (is.earlier ++ claim.last ∷ []) },
  record { earlier = is.earlier; longest = is.longest; last = is.last; few = is.few; pieces = refl },
)

-- what holds of no answer, if there is none
pub none_of : {A : Type 0} (P : Type 0) (Q : A → Type 0) (o : Option A) → is_some o ≡ false → MatchOption o P Q → P
none_of P Q None e is = is
none_of P Q (Some a) e is = absurd cc

-- ---- of the least bound

module _ (samples : List Sample) (claim : ClaimData) (lawful : IsLawful claim)
    (are : AreSamplesOf claim samples) where
  -- what is accepted under a bound is accepted under a wider one
  accepted_wider : (m n : ℕ) (certificate : CertificateData) → m ≤ n
      → verdict_of samples (with_bound claim m) certificate ≡ Yes
      → verdict_of samples (with_bound claim n) certificate ≡ Yes
  accepted_wider m n certificate le accepted =
      let ticks = ticks_down-mono m n le in
      let spelled : ClaimData = record (with_bound claim m) { bound = pos (ticks_down n) } in
      same_verdict samples spelled n 0 claim.first certificate.pieces
      ∙ wider_bound samples (with_bound claim m) (pos (ticks_down n)) certificate (omega (arith, ints)) accepted

  -- ---- where the longest pieces have come to, a piece of one tick begins

  tick_after : (m : ℕ) (earlier : List ℤ) (tick : ℤ) → AreLongest samples (with_bound claim m) claim.first earlier
      → tick ≡ end_after claim.first earlier → IsTick claim tick
  tick_after m earlier tick longest is =
      grind (
        arith,
        ints,
        nat_tests,
        reached samples (with_bound claim m) claim.first earlier lawful.span_forward
            longest,
      )

  pub stop_is_tick : (m : ℕ) (tick : ℤ) → StopsAt samples (with_bound claim m) tick → IsTick claim tick
  stop_is_tick m tick (inl (end, hull, stuck)) = tick_after m stuck.earlier tick stuck.longest stuck.begins
  stop_is_tick m tick (inr (long, is)) = tick_after m long.earlier tick long.longest is

  -- ---- where it stops, no certificate is accepted that may be written

  none_where_stopped : (m : ℕ) (tick : ℤ) → m ≤ max_bound_ns → IsNeverEmpty samples claim
      → StopsAt samples (with_bound claim m) tick → NoneOfFewIsAccepted samples (with_bound claim m)
  none_where_stopped m tick small never (inl (end, hull, stuck)) certificate few accepted =
      let bounded = with_bound claim m in
      let its_hull : hull_over samples claim tick (next_tick samples claim tick) ≡ hull =
      sym (stuck.its_hull ∙ ap (hull_over samples bounded tick) stuck.ends
      ∙ same_hull samples claim m (stretch_over tick (next_tick samples claim tick))) in
      none_if_stuck samples bounded (lawful_with claim m small lawful) (samples_of_other samples claim m are) tick end
      hull stuck (λ empty. never tick (stop_is_tick m tick (inl (end, hull, stuck))) (its_hull ∙ empty)) certificate
      accepted
  none_where_stopped m tick small never (inr (long, is)) certificate few accepted =
      none_if_too_long samples (with_bound claim m) (lawful_with claim m small lawful)
      (samples_of_other samples claim m are) long certificate few accepted

  -- ---- a certificate of longest pieces is accepted

  accepted_if_carried : (m : ℕ) → m ≤ max_bound_ns → (certificate : CertificateData)
      → (is : IsOfLongest samples (with_bound claim m) certificate)
      → verdict_of samples (with_bound claim m) certificate ≡ Yes
  accepted_if_carried m small certificate is =
      let bounded = with_bound claim m in
      let lawful' = lawful_with claim m small lawful in
      let are' = samples_of_other samples claim m are in
      ap (verdict_from samples bounded 0 claim.first) is.pieces
      ∙ yes_from samples bounded lawful' are' 0 claim.first is.earlier
      (first_in_span samples bounded lawful' are') is.longest is.last

  few_pieces : (m : ℕ) → m ≤ max_bound_ns → (certificate : CertificateData)
      → (is : IsOfLongest samples (with_bound claim m) certificate) → length certificate.pieces ≤ max_pieces
  few_pieces m small certificate is =
      let bounded = with_bound claim m in
      let lawful' = lawful_with claim m small lawful in
      let are' = samples_of_other samples claim m are in
      omega (
        arith,
        ap length is.pieces,
        length-append is.earlier (claim.last ∷ []),
        as_many_pieces samples bounded lawful' are' claim.first (is.earlier ++ claim.last ∷ []),
      )

  -- ---- the answers

  least_under : (n : ℕ) (tick : ℤ) → n ≤ max_bound_ns → IsFirst samples claim n tick → IsNeverEmpty samples claim
      → (m : ℕ) → m < n → NoneOfFewIsAccepted samples (with_bound claim m)
  least_under n tick small (inl (zero_is, at)) never m less certificate few accepted = absurd (omega arith)
  least_under n tick small (inr (below, is, stops)) never m less certificate few accepted =
      none_where_stopped below tick (omega arith) never stops certificate few
      (accepted_wider m below certificate (omega arith) accepted)

  enough_over : (n : ℕ) → n ≤ max_bound_ns → IsCarried samples (with_bound claim n) → IsNeverEmpty samples claim
      → (m : ℕ) → n ≤ m → m ≤ max_bound_ns → IsCarried samples (with_bound claim m)
  enough_over n small (certificate, longest) never m le small' =
      let never_stops : (tick : ℤ) → StopsAt samples (with_bound claim m) tick → ⊥ =
      λ tick stops. none_where_stopped m tick small' never stops certificate (few_pieces n small certificate longest)
      (accepted_wider n m certificate le (accepted_if_carried n small certificate longest)) in
      ⊎_elim (λ carried. carried) (λ stops. absurd (⊎_elim
      (λ stuck. never_stops stuck.0 (inl (stuck.1, stuck.2, stuck.3)))
      (λ long. never_stops (end_after claim.first long.earlier) (inr (long, refl))) stops))
      (one_of_three samples (with_bound claim m))

  pub finds_least : (least : LeastCarried) → least.bound_ns ≤ max_bound_ns
      → IsCarried samples (with_bound claim least.bound_ns) → IsFirst samples claim least.bound_ns (pos least.tick)
      → IsCarried samples (with_bound claim max_bound_ns) → FindsLeastBound samples claim (Ok (Some least))
  finds_least least small carried first at_most = record {
    found = carried;
    not_below = first;
    least = λ never m less. least_under least.bound_ns (pos least.tick) small first never m less;
    enough = λ never m le small'. enough_over least.bound_ns small carried never m le small';
    none = at_most;
    lawful = (
      small,
      ⊎_elim
          (λ at. record { from_first = rw at.1 (omega (arith, ints)); begins = inl at.1 })
          (λ below. stop_is_tick below.0 (pos least.tick) below.2) first,
    );
  }
