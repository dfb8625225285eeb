-- What the best entries of a piece show, if others show something of a stretch that has the whole of it.
use Rattle.finder.proofs.Common.{◌≡◌, ◌∙◌, ℕ, ◌<◌, ◌≤◌, true, ◌⊎◌, inl, inr, ⊎_elim, get_or, List, [], length, Option, Some, None, Result, Ok, Err, refl, sym, subst, arith, Any, slice_get, ints, ClaimData, max_drift_ppb, Empty, IsLawfulSample, Sample, is_inside, part_of, IsPiece, Part, Stretch, IsNarrower, AreNarrower, IsOfSamples, parts_after, parts_fault, Why, best_over, best_entries, best_hull, part_named, parts_named, HoldsWhole, AreSamplesOf, IsNoWider, All-slice_get}
use Rattle.intersection.proofs.EndPoints.{IsHull-hull_of}
use Rattle.span_cover.proofs.PieceDistance.{moved_high-narrower, moved_low-narrower}
use Rattle.checker.proofs.Narrow.{empty_or_inside, of_samples}
use Rattle.finder.proofs.Best.{best_of_is, best_of_none}
use Rattle.finder.proofs.Known.{grows}
use Rattle.finder.proofs.List.{any_given}
use Rattle.finder.proofs.Part.{part_said, parts_said}
use Rattle.sweep.specs.Table.{best_part}
use Rattle.finder.proofs.GroupHull.{narrower_is_no_wider}
use Rattle.finder.proofs.Verdict.{entries_accepted, passes_inside}

module _ (samples : List Sample) (claim : ClaimData) (outer inner : Stretch)
    (rate : claim.drift_ppb ≤ max_drift_ppb) (are : AreSamplesOf claim samples)
    (piece : IsPiece inner.begin inner.end) (whole : HoldsWhole outer inner)
  where
    abbrev best_parts : List Part
    best_parts = parts_named samples claim inner (best_entries samples claim inner)

    names_both : (entry : ℕ × ℕ) (low high : Sample) → slice_get samples entry.0 ≡ Some low
        → slice_get samples entry.1 ≡ Some high
        → part_named samples claim inner entry ≡ Some (part_of low high inner claim.drift_ppb)
    names_both entry low high a b = rw (a, b) refl

    -- the best samples give a narrower interval over the stretch inside
    better_of : (part : Part) (said : IsOfSamples samples outer claim.drift_ppb part) (entry : ℕ × ℕ)
        → best_over samples claim inner said.low.server ≡ Some entry → Any (IsNarrower part) best_parts
    better_of part said entry is =
        let ppb = claim.drift_ppb in
        let low = said.low in
        let high = said.high in
        let best = best_of_is samples low.server inner.begin inner.end ppb entry is in
        let low_sample = All-slice_get IsLawfulSample samples said.low_number low are.lawful said.low_is in
        let high_sample = All-slice_get IsLawfulSample samples said.high_number high are.lawful said.high_is in
        let within = All-slice_get (λ sample. sample.server < length claim.servers) samples said.low_number low
        are.listed said.low_is in
        let forward = piece.in_order in
        let low_in = moved_low-narrower grows ppb low outer.begin outer.end inner.begin inner.end (omega arith)
        low_sample.low_window_in_order whole.0 forward whole.1 in
        let high_in = moved_high-narrower grows ppb high outer.begin outer.end inner.begin inner.end (omega arith)
        high_sample.high_window_in_order whole.0 forward whole.1 in
        let most = best.0.greatest said.low_number low said.low_is refl in
        let least = best.1.greatest said.high_number high said.high_is (sym said.one_server) in
        let other = part_of best.0.sample best.1.sample inner ppb in
        let this = part_of low high outer ppb in
        let narrower : IsNarrower this other = record {
          server = sym best.0.of_server;
          low = omega (arith, ints, low_in, most);
          high = omega (arith, ints, high_in, least);
        } in
        subst (Any (IsNarrower part)) (parts_said samples claim inner.begin inner.end)
        (any_given (best_part samples inner.begin inner.end ppb) (IsNarrower part) low.server other
        (sym (part_said samples claim inner.begin inner.end low.server entry is)
        ∙ names_both entry best.0.sample best.1.sample best.0.stands best.1.stands)
        (subst (λ (p : Part). IsNarrower p other) (sym said.is) narrower)
        0 (length claim.servers) (omega arith) (omega (arith, within)))

    pub better_at : (part : Part) (said : IsOfSamples samples outer claim.drift_ppb part) (o : Option (ℕ × ℕ))
        → best_over samples claim inner said.low.server ≡ o → Any (IsNarrower part) best_parts
    better_at part said None is =
        let none = best_of_none samples said.low.server inner.begin inner.end claim.drift_ppb is in
        absurd (none said.low_number said.low said.low_is refl)
    better_at part said (Some entry) is = better_of part said entry is

    narrower : (entries : List (ℕ × ℕ)) (said : Result (List Part) Why)
        → parts_after samples outer claim.drift_ppb [] entries ≡ said → parts_fault claim said ≡ None
        → (best_hull samples claim inner ≡ Empty) ⊎ (is_inside claim.bound (best_hull samples claim inner) ≡ true)
    unfolding best_hull
    narrower entries (Err why) is passes = absurd cc
    narrower entries (Ok parts) is passes =
        let said = of_samples samples outer claim.drift_ppb entries parts is in
        ⊎_elim
        (λ inside. inr (passes_inside claim.bound _ inside))
        (λ empty. inl empty)
        (empty_or_inside IsHull-hull_of claim.groups claim.false_max claim.bound parts best_parts
        (λ k d within. better_at (get_or parts k d) (said k d within) _ refl) passes)

pub shows_as_much : (samples : List Sample) (claim : ClaimData) (outer inner : Stretch) (entries : List (ℕ × ℕ))
    → claim.drift_ppb ≤ max_drift_ppb → AreSamplesOf claim samples → IsPiece inner.begin inner.end
    → HoldsWhole outer inner
    → parts_fault claim (parts_after samples outer claim.drift_ppb [] entries) ≡ None
    → (best_hull samples claim inner ≡ Empty) ⊎ (is_inside claim.bound (best_hull samples claim inner) ≡ true)
shows_as_much samples claim outer inner entries rate are piece whole passes =
    narrower samples claim outer inner rate are piece whole entries _ refl passes

-- ---- two pieces, one inside the other, with the best entries of each

-- each part of the longer piece has a narrower one in the other
pub parts_narrow : (samples : List Sample) (claim : ClaimData) (outer inner : Stretch)
    → claim.drift_ppb ≤ max_drift_ppb → AreSamplesOf claim samples → IsPiece inner.begin inner.end
    → HoldsWhole outer inner → AreNarrower (parts_named samples claim outer (best_entries samples claim outer))
    (parts_named samples claim inner (best_entries samples claim inner))
parts_narrow samples claim outer inner rate are piece whole =
    let entries = best_entries samples claim outer in
    let parts = parts_named samples claim outer entries in
    let said = of_samples samples outer claim.drift_ppb entries parts (entries_accepted samples claim outer) in
    λ k d within. better_at samples claim outer inner rate are piece whole (get_or parts k d) (said k d within) _
    refl

pub no_wider_within : (samples : List Sample) (claim : ClaimData) (outer inner : Stretch)
    → claim.drift_ppb ≤ max_drift_ppb → AreSamplesOf claim samples → IsPiece inner.begin inner.end
    → HoldsWhole outer inner → IsNoWider (best_hull samples claim outer) (best_hull samples claim inner)
unfolding best_hull
no_wider_within samples claim outer inner rate are piece whole =
    narrower_is_no_wider claim.groups claim.false_max
    (parts_named samples claim outer (best_entries samples claim outer))
    (parts_named samples claim inner (best_entries samples claim inner))
    (parts_narrow samples claim outer inner rate are piece whole)
