-- The longest pieces of a case, one after another.
use Rattle.std.proofs.Common.{◌≡◌, ℕ, zero, suc, ◌-◌, ◌<◌, ◌≤◌, ℤ, pos, ◌+ℤ◌, ◌≤ℤ◌, ◌<ℤ◌, Bool, true, false, List, [], ◌∷◌, ◌++◌, length, map, All, ◌⊎◌, inr, refl, sym, ap, ◌∙◌, subst, arith}
use Rattle.std.proofs.lemmas.Int.{ints}
use Rattle.std.proofs.lemmas.List.{length-append, length-map, map-append}
use Rattle.std.proofs.lemmas.List.Elements.{All-nil, All-push}
use Rattle.std.proofs.lemmas.Option.{slice_get_within}
use Rattle.certificate.specs.Certificate.{PieceData, piece_data}
use Rattle.certificate.specs.declared.certificate.Piece.{Piece}
use Rattle.checker.specs.Stretch.{begin_of}
use Rattle.cover_checker.specs.Acceptance.{ShowBound}
use Rattle.cover_finder.specs.Common.{ClaimData, Exchange, Hull, end_after, is_inside, stretch_over}
use Rattle.cover_finder.specs.Hull.{IsHullWithout}
use Rattle.cover_finder.specs.Open.{AreLongest, IsLongest, LiesInside}
use Rattle.cover_finder.specs.Reach.{AllShowBound, AreFull, ReachEnd, ends_of}
use Rattle.cover_finder.proofs.List.{each_pushed}

-- ---- one more piece

pub data_more : (new old : List Piece) (piece : Piece) → new ≡ old ++ piece ∷ []
    → map piece_data new ≡ map piece_data old ++ piece_data piece ∷ []
data_more new old piece is = ap (map piece_data) is ∙ map-append piece_data old (piece ∷ [])

ends_more : (pieces : List PieceData) (piece : PieceData)
    → ends_of (pieces ++ piece ∷ []) ≡ ends_of pieces ++ pos piece.upto ∷ []
ends_more pieces piece = map-append (λ (p : PieceData). pos p.upto) pieces (piece ∷ [])

end_after_more : (p : ℤ) (ends : List ℤ) (q : ℤ) → end_after p (ends ++ q ∷ []) ≡ q
end_after_more p [] q = refl
end_after_more p (e ∷ ends) q = end_after_more e ends q

begin_of-front : (p : ℤ) (pieces : List PieceData) (piece : PieceData) (k : ℕ) → k < length pieces
    → begin_of p (pieces ++ piece ∷ []) k ≡ begin_of p pieces k
begin_of-front p pieces piece zero below = refl
begin_of-front p [] piece (suc k) below = absurd (omega arith)
begin_of-front p (first ∷ pieces) piece (suc k) below =
    begin_of-front (pos first.upto) pieces piece k (omega arith)

begin_of-last : (p : ℤ) (pieces : List PieceData) (piece : PieceData)
    → begin_of p (pieces ++ piece ∷ []) (length pieces) ≡ end_after p (ends_of pieces)
begin_of-last p [] piece = refl
begin_of-last p (first ∷ pieces) piece = begin_of-last (pos first.upto) pieces piece

module _ (claim : ClaimData) (xs : List Exchange) (out : ℕ → Bool) where
  longest_more : (p : ℤ) (ends : List ℤ) (q : ℤ) → AreLongest claim xs out p ends
      → IsLongest claim xs out (end_after p ends) q → AreLongest claim xs out p (ends ++ q ∷ [])
  longest_more p [] q are is = (is, tt)
  longest_more p (e ∷ ends) q are is = (are.0, longest_more e ends q are.1 is)

  -- the piece shows the bound from this tick on
  abbrev ShowsFrom : PieceData → ℤ → Type 0
  ShowsFrom piece begin = ShowBound claim xs out (stretch_over begin (pos piece.upto)) piece.entries

  shown_more : (pieces : List PieceData) (piece : PieceData) → AllShowBound claim xs out pieces
      → ShowsFrom piece (end_after claim.first (ends_of pieces)) → AllShowBound claim xs out (pieces ++ piece ∷ [])
  shown_more pieces piece all shows = record {
    each = each_pushed (λ k p. ShowsFrom p (begin_of claim.first (pieces ++ piece ∷ []) k)) pieces piece
        (λ k p at. subst (ShowsFrom p)
        (sym (begin_of-front claim.first pieces piece k (slice_get_within pieces k p at))) (all.each k p at))
        (subst (ShowsFrom piece) (sym (begin_of-last claim.first pieces piece)) shows);
  }

  -- the pieces are longest, and each shows the bound
  pub record AreShown (pieces : List PieceData) : Type 0 where
    pub longest : AreLongest claim xs out claim.first (ends_of pieces)
    pub show : AllShowBound claim xs out pieces

  pub none_shown : AreShown []
  none_shown = record { longest = tt; show = record { each = λ k piece at. absurd cc } }

  module _ (begin : ℕ) (pieces more : List PieceData) (piece : PieceData) (is : more ≡ pieces ++ piece ∷ [])
      (are : AreShown pieces) (begins : pos begin ≡ end_after claim.first (ends_of pieces))
      (longest : IsLongest claim xs out (pos begin) (pos piece.upto))
      (shows : ShowBound claim xs out (stretch_over (pos begin) (pos piece.upto)) piece.entries) where
    pub more_shown : AreShown more
    more_shown = subst AreShown (sym is) (record {
      longest = subst (AreLongest claim xs out claim.first) (sym (ends_more pieces piece))
          (longest_more claim.first (ends_of pieces) (pos piece.upto) are.longest
          (subst (λ (z : ℤ). IsLongest claim xs out z (pos piece.upto)) begins longest));
      show = shown_more pieces piece are.show (subst (ShowsFrom piece) begins shows);
    })

-- ---- where they end

module _ (claim : ClaimData) where
  -- the pieces reach this tick of the span, and end before its end
  pub record AreMade (begin : ℕ) (pieces : List PieceData) : Type 0 where
    pub begins : pos begin ≡ end_after claim.first (ends_of pieces)
    pub from_first : claim.first ≤ℤ pos begin
    pub to_last : pos begin ≤ℤ claim.last
    pub before : All (λ end. end <ℤ claim.last) (ends_of pieces)

  pub none_made : (begin : ℕ) → pos begin ≡ claim.first → claim.first ≤ℤ claim.last → AreMade begin []
  none_made begin is forward = record {
    begins = is;
    from_first = omega (arith, ints, is);
    to_last = omega (arith, ints, is, forward);
    before = All-nil (λ end. end <ℤ claim.last);
  }

  last_is : (pieces : List PieceData) (piece : PieceData)
      → pos piece.upto ≡ end_after claim.first (ends_of (pieces ++ piece ∷ []))
  last_is pieces piece =
      sym (ap (end_after claim.first) (ends_more pieces piece)
      ∙ end_after_more claim.first (ends_of pieces) (pos piece.upto))

  module _ (pieces more : List PieceData) (piece : PieceData) (is : more ≡ pieces ++ piece ∷ []) where
    pub more_made : (begin : ℕ) → AreMade begin pieces → begin ≤ piece.upto → pos piece.upto <ℤ claim.last
        → AreMade piece.upto more
    more_made begin made forward before = subst (AreMade piece.upto) (sym is) (record {
      begins = last_is pieces piece;
      from_first = omega (arith, ints, made.from_first, forward);
      to_last = omega (arith, ints, before);
      before = subst (All (λ end. end <ℤ claim.last)) (sym (ends_more pieces piece))
          (All-push (λ end. end <ℤ claim.last) (ends_of pieces) (pos piece.upto) made.before before);
    })

    pub end_reached : pos piece.upto ≡ claim.last → ReachEnd claim (ends_of more)
    end_reached at_last = subst (λ (ps : List PieceData). ReachEnd claim (ends_of ps)) (sym is) (record {
      some = omega (
        arith,
        length-map (pieces ++ piece ∷ []) (λ (p : PieceData). pos p.upto),
        length-append pieces (piece ∷ []),
      );
      with_span = sym (last_is pieces piece) ∙ at_last;
    })

  pub are_full : (begin most : ℕ) (pieces : List PieceData) → AreMade begin pieces → length pieces ≡ most
      → AreFull claim most (ends_of pieces)
  are_full begin most pieces made is = record {
    as_many = length-map pieces (λ (p : PieceData). pos p.upto) ∙ is;
    before = made.before;
  }

-- ---- one piece, by halving

module _ (claim : ClaimData) (xs : List Exchange) (out : ℕ → Bool) (begin : ℕ) where
  pub answered : (end : ℕ) (hull : Hull) (shows answer : Bool)
      → IsHullWithout claim xs (stretch_over (pos begin) (pos end)) out hull → shows ≡ is_inside claim.bound hull
      → shows ≡ answer → LiesInside claim xs out (pos begin) (pos end) answer
  answered end hull shows answer of inside is = record { hull = hull; of = of; inside = sym inside ∙ is }

  -- the piece to a tick ends with the span, or by a tick more it isn't shown
  abbrev pub NoLonger : ℕ → Type 0
  NoLonger end = (pos end ≡ claim.last) ⊎ LiesInside claim xs out (pos begin) (pos end +ℤ pos 1) false

  pub no_longer : (low end : ℕ) → low < end → LiesInside claim xs out (pos begin) (pos end) false
      → NoLonger (end - 1)
  no_longer low end above fails =
      let same : pos end ≡ pos (end - 1) +ℤ pos 1 = omega (arith, ints) in
      inr (subst (λ (z : ℤ). LiesInside claim xs out (pos begin) z false) same fails)

  pub longest_met : (low high : ℕ) → low ≡ high → LiesInside claim xs out (pos begin) (pos low) true → NoLonger high
      → IsLongest claim xs out (pos begin) (pos low)
  longest_met low high same shown no_more =
      record { shown = shown; no_longer = subst NoLonger (sym same) no_more }
