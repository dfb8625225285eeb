-- The best samples of each piece.
use Rattle.sweep.proofs.Common.{ℕ, ℤ, List, arith, sym, ◌∙◌, slice_get-below, slice_get_within, Sample, AreExtremesOf, AreBestOfPieces, ArePairsOf, AreStretchesOf, IsLawfulStretch, AreTopNumbers, Extreme, Low, High, UnsignedStretch, All-slice_get}
use Rattle.span_cover.proofs.BestSample.{best_of-best}
use Rattle.sweep.proofs.Merit.{IsFirstBest-top}

module _ (samples : List Sample) (server : ℕ) (first : ℤ) (ends : List ℤ) (ppb : ℕ)
    (lows highs : List Extreme) (are_low : AreExtremesOf Low samples server lows)
    (are_high : AreExtremesOf High samples server highs) (stretches : List UnsignedStretch)
    (are_stretches : AreStretchesOf first ends stretches) where
  pub AreBestOfPieces-tops : (low_numbers high_numbers : List ℕ) (chosen : List (ℕ × ℕ)) →
      AreTopNumbers ppb lows stretches low_numbers → AreTopNumbers ppb highs stretches high_numbers →
      ArePairsOf low_numbers high_numbers chosen → AreBestOfPieces samples server first ends ppb chosen
  AreBestOfPieces-tops low_numbers high_numbers chosen low_tops high_tops pairs = record {
    as_many = pairs.as_many ∙ low_tops.as_many ∙ are_stretches.as_many;
    best = λ k p q at.
        let within = slice_get_within ends k q at.ends_at in
        let stretch = slice_get-below stretches k (omega (arith, are_stretches.as_many)) in
        let is_stretch = are_stretches.each k p q stretch.0 at stretch.1 in
        let lawful = All-slice_get IsLawfulStretch stretches k stretch.0 are_stretches.lawful stretch.1 in
        let low = slice_get-below low_numbers k (omega (arith, are_stretches.as_many, low_tops.as_many)) in
        let high = slice_get-below high_numbers k (omega (arith, are_stretches.as_many, high_tops.as_many)) in
        pairs.each k low.0 high.0 low.1 high.1
        ∙ sym (best_of-best samples server p q ppb low.0 high.0
        (IsFirstBest-top Low samples server lows are_low p q ppb stretch.0 is_stretch lawful low.0
        (low_tops.each k stretch.0 low.0 stretch.1 low.1))
        (IsFirstBest-top High samples server highs are_high p q ppb stretch.0 is_stretch lawful high.0
        (high_tops.each k stretch.0 high.0 stretch.1 high.1)));
  }
