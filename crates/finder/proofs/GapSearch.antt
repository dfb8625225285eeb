-- The search for the tick that needs most: what is known of the gaps that are left, and of all other ticks.
use Rattle.finder.proofs.Common.{◌≡◌, ℕ, ◌≤◌, ℤ, pos, ◌≤ℤ◌, ◌<ℤ◌, Bool, ◌⊎◌, inl, inr, ⊎_elim, List, [], ◌∷◌, ◌++◌, length, Option, Some, None, refl, sym, ap, ◌∙◌, subst, arith, ints, clamps, ClaimData, IsLawful, Hull, Unbounded, Empty, Bounded, Sample, next_tick, stretch_over, AreSamplesOf, AreHalves, gap_between, IsBoundless, IsGap, IsInSpan, IsWithin, NeedsAtMost, need_of, hull_without, tick_without}
use Rattle.std.specs.Prelude.{IsSomeAnd}
use Rattle.std.specs.List.{Contains}
use Rattle.std.proofs.lemmas.List.Elements.{Contains-append_left, Contains-push, Contains-push_cases}
use Rattle.finder.specs.declared.neediest.Gap.{Gap}
use Rattle.finder.specs.declared.neediest.TickNeed.{TickNeed}
use Rattle.finder.proofs.HullWithout.{needs_no_more, no_wider_without}
use Rattle.finder.proofs.Nearest.{int_cases}

-- ---- the gaps

module _ (claim : ClaimData) (gap : Gap) (tick : TickNeed) (a b : Gap) (halves : AreHalves gap tick a b) where
  pub half_gaps : IsGap claim gap → gap.first.begin ≤ tick.begin → tick.begin ≤ gap.last.begin
      → IsGap claim a × IsGap claim b
  half_gaps is from to =
      let before : IsGap claim (gap_between gap.first tick) = omega (arith, ints) in
      let after : IsGap claim (gap_between tick gap.last) = omega (arith, ints) in
      ⊎_elim
      (λ same. (subst (IsGap claim) (sym same.0) before, subst (IsGap claim) (sym same.1) after))
      (λ turned. (subst (IsGap claim) (sym turned.0) after, subst (IsGap claim) (sym turned.1) before))
      halves

  -- a tick within a gap is the one that splits it, or within a half
  within_half : (p : ℤ) → IsWithin gap p → (p ≡ pos tick.begin) ⊎ (IsWithin a p ⊎ IsWithin b p)
  within_half p within =
      let before : p <ℤ pos tick.begin → IsWithin (gap_between gap.first tick) p = (λ less. (within.0, less)) in
      let after : pos tick.begin <ℤ p → IsWithin (gap_between tick gap.last) p = (λ more. (more, within.1)) in
      ⊎_elim
      (λ less. inr (⊎_elim (λ same. inl (rw same.0 (before less))) (λ turned. inr (rw turned.1 (before less))) halves))
      (λ from. ⊎_elim
      (λ more. inr (⊎_elim (λ same. inr (rw same.1 (after more))) (λ turned. inl (rw turned.0 (after more))) halves))
      (λ to. inl (omega (arith, ints, from, to)))
      (int_cases (pos tick.begin) p))
      (int_cases p (pos tick.begin))

module _ (samples : List Sample) (claim : ClaimData) (cover : ℕ → Bool) where
  -- what a tick of the span needs is known
  pub record IsSeen (tick : TickNeed) : Type 0 where
    pub in_span : IsInSpan claim (pos tick.begin)
    pub need : need_of (tick_without samples claim cover (pos tick.begin)) ≡ Some tick.ticks

  -- a gap has the tick within
  abbrev pub HasWithin : List Gap → ℤ → Type 0
  HasWithin gaps p = (gap : Gap) × Contains gaps gap × IsWithin gap p

  -- no tick of the span needs more than so many ticks, but for those in gaps
  abbrev pub AreLeft : ℕ → List Gap → Type 0
  AreLeft most gaps = (p : ℤ) → IsInSpan claim p
      → NeedsAtMost most (tick_without samples claim cover p) ⊎ HasWithin gaps p

  pub one_seen : (a b found : TickNeed) → (found ≡ a) ⊎ (found ≡ b) → IsSeen a → IsSeen b → IsSeen found
  one_seen a b found either seen seen' =
      ⊎_elim (λ is. subst IsSeen (sym is) seen) (λ is. subst IsSeen (sym is) seen') either

  enough : (tick : TickNeed) (most : ℕ) (p : ℤ) → IsSeen tick → tick.ticks ≤ most → p ≡ pos tick.begin
      → NeedsAtMost most (tick_without samples claim cover p)
  enough tick most p seen few is =
      subst (λ (q : ℤ). NeedsAtMost most (tick_without samples claim cover q)) (sym is) (rw seen.need few)

  pub more_enough : (most more : ℕ) (need : Option ℕ) → most ≤ more → IsSomeAnd need (λ n. n ≤ most)
      → IsSomeAnd need (λ n. n ≤ more)
  more_enough most more None le need = need
  more_enough most more (Some n) le need = omega (arith, le, need)

  -- a look-up at a reading of the span sees the tick there
  pub seen_at : (begin : ℕ) (tick : TickNeed) → tick.begin ≡ begin → claim.first ≤ℤ pos begin → pos begin ≤ℤ claim.last
      → need_of (tick_without samples claim cover (pos begin)) ≡ Some tick.ticks → IsSeen tick
  seen_at begin tick is from to need = record {
    in_span = record { from_first = omega (arith, ints, is, from); to_last = omega (arith, ints, is, to) };
    need = ap (λ (n : ℕ). need_of (tick_without samples claim cover (pos n))) is ∙ need;
  }

  -- or there is no bound for it
  pub boundless_at : (begin : ℕ) → claim.first ≤ℤ pos begin → pos begin ≤ℤ claim.last
      → need_of (tick_without samples claim cover (pos begin)) ≡ None → IsBoundless samples claim cover
  boundless_at begin from to none =
      (pos begin, record { from_first = from; to_last = to }, unbounded (tick_without samples claim cover (pos begin)) none)
    where
      unbounded : (hull : Hull) → need_of hull ≡ None → hull ≡ Unbounded
      unbounded Unbounded is = refl
      unbounded Empty is = absurd cc
      unbounded (Bounded lo hi) is = absurd cc

  -- at first all ticks but those at the ends are left
  pub first_left : (first last : TickNeed) (most : ℕ) → IsSeen first → IsSeen last → pos first.begin ≡ claim.first
      → pos last.begin ≡ claim.last → first.ticks ≤ most → last.ticks ≤ most
      → AreLeft most (gap_between first last ∷ [])
  first_left first last most seen seen' begins ends few few' p is =
      ⊎_elim
      (λ more. ⊎_elim
      (λ less. inr (gap_between first last, Contains-push [] (gap_between first last), (more, less)))
      (λ at. inl (enough last most p seen' few' (omega (arith, ints, ends, at))))
      (int_cases p (pos last.begin)))
      (λ at. inl (enough first most p seen few (omega (arith, ints, begins, at))))
      (int_cases (pos first.begin) p)

  module _ (most : ℕ) (gaps rest : List Gap) (gap : Gap) (popped : gaps ≡ rest ++ gap ∷ [])
      (left : AreLeft most gaps) where
    one_fewer : (p : ℤ) → IsInSpan claim p → NeedsAtMost most (tick_without samples claim cover p)
        ⊎ (HasWithin rest p ⊎ IsWithin gap p)
    one_fewer p is = ⊎_elim
        (λ need. inl need)
        (λ any. inr (⊎_elim
        (λ in_rest. inl (any.0, in_rest, any.2))
        (λ same. inr (subst (λ (g : Gap). IsWithin g p) (sym same) any.2))
        (Contains-push_cases rest gap any.0 (subst (λ (gs : List Gap). Contains gs any.0) popped any.1))))
        (left p is)

    -- a gap whose ticks need no more is left behind
    pub left_behind : ((p : ℤ) → IsWithin gap p → NeedsAtMost most (tick_without samples claim cover p))
        → AreLeft most rest
    left_behind needs p is = ⊎_elim (λ need. inl need) (⊎_elim (λ any. inr any) (λ within. inl (needs p within)))
        (one_fewer p is)

    -- or it's split
    pub left_split : (tick : TickNeed) (more : ℕ) (a b : Gap) → AreHalves gap tick a b → IsSeen tick → most ≤ more
        → tick.ticks ≤ more → AreLeft more ((rest ++ a ∷ []) ++ b ∷ [])
    left_split tick more a b halves seen le few p is =
        let behind : HasWithin (rest ++ a ∷ []) p → HasWithin ((rest ++ a ∷ []) ++ b ∷ []) p =
        (λ any. (any.0, Contains-append_left (rest ++ a ∷ []) (b ∷ []) any.0 any.1, any.2)) in
        ⊎_elim
        (λ need. inl (more_enough most more (need_of (tick_without samples claim cover p)) le need))
        (⊎_elim
        (λ any. inr (behind (any.0, Contains-append_left rest (a ∷ []) any.0 any.1, any.2)))
        (λ within. ⊎_elim
        (λ at. inl (enough tick more p seen few at))
        (λ half. inr (⊎_elim (λ in_a. behind (a, Contains-push rest a, in_a))
        (λ in_b. (b, Contains-push (rest ++ a ∷ []) b, in_b)) half))
        (within_half claim gap tick a b halves p within)))
        (one_fewer p is)

  -- where no gap is left no tick needs more
  pub none_left : (most : ℕ) (gaps : List Gap) → length gaps ≡ 0 → AreLeft most gaps → (p : ℤ) → IsInSpan claim p
      → NeedsAtMost most (tick_without samples claim cover p)
  none_left most gaps empty left p is =
      ⊎_elim (λ need. need) (λ any. absurd (omega (arith, empty))) (left p is)

  -- a tick within a gap needs no more than all of it
  pub needs_within : IsLawful claim → AreSamplesOf claim samples → (gap : Gap) → IsGap claim gap
      → (most all : ℕ)
      → Some all ≡ need_of (hull_without samples claim cover (stretch_over (pos gap.first.begin) (pos gap.last.begin)))
      → all ≤ most → (p : ℤ) → IsWithin gap p → NeedsAtMost most (tick_without samples claim cover p)
  needs_within lawful are gap is most all need few p within =
      needs_no_more most _ _
      (no_wider_without samples claim cover (stretch_over (pos gap.first.begin) (pos gap.last.begin))
      (stretch_over p (next_tick samples claim p)) lawful.drift_in_range are
      (record {
        from_zero = omega (arith, ints);
        in_order = omega (arith, ints, clamps);
        in_range = omega (arith, ints, clamps);
      })
      (omega (arith, ints), omega (arith, ints, clamps)))
      (subst (λ (o : Option ℕ). IsSomeAnd o (λ n. n ≤ most)) need few)
