-- What settles a claim.
use Rattle.finder.proofs.Common.{HoldsError, ◌≡◌, ℕ, ◌<◌, ◌≤◌, ℤ, pos, ◌*ℤ◌, ◌≤ℤ◌, true, List, [], ◌∷◌, Ok, refl, sym, subst, unsigned_abs, arith, rules, ◌↔◌, All, IsTrue, ints, clamps, ClaimData, IsLawful, Exchange, CertificateData, RefutationData, Certificate, Hull, Sample, Course, IsObservedIn, samples_of, verdict_from, verdict_of, Yes, HasSmallCover, IsCover, SomeCourse, AreHeld, NoneIsRefuted, nat_tests, AreSamplesOf, IsInHull, IsStuck, AreEnds, pieces_over, stretch_over, ◌++◌, ◌∙◌, ap, length-append}
use Rattle.std.specs.Prelude.{Bool, length, option_map}
use Rattle.pairing.specs.Exchange.{IsLawful as IsLawfulExchange}
use Rattle.certificate.specs.Certificate.{data_of as certificate_data}
use Rattle.intersection.specs.Fineness.{times_le}
use Rattle.feasibility.specs.Contradiction.{AreAllConflicts, HoldsAnEnd, ShownConflict}
use Rattle.feasibility.specs.DriftSettlement.{SettlesWithDrift}
use Rattle.feasibility.specs.ServedGroups.{IsNoEvidence, count_with_exchange}
use Rattle.std.proofs.Common.{get_or, IfSome, IsSomeAnd, MatchOption, Option, Some, None, ⊎_elim}
use Rattle.checker.specs.Course.{Fits as FitsExchanges}
use Rattle.checker.specs.Traceability.{IsWithin}
use Rattle.feasibility.specs.LeastCovers.{AreLeastCovers}
use Rattle.feasibility.specs.declared.groups.Groups.{Groups}
use Rattle.finder.specs.declared.neediest.Neediest.{Neediest}
use Rattle.finder.proofs.Common.{◌+◌, take, take_all, holds, holds_false, IsBoundless, IsNeediest, NoneNeedsMore, need_of, tick_without}
use Rattle.checker.proofs.Exchange.{are_samples}
use Rattle.finder.proofs.CoverHull.{within_most}
use Rattle.finder.proofs.FewestPieces.{as_many_pieces, first_in_span, more_of_accepted, none_if_stuck, stuck_at, yes_from}
use Rattle.finder.proofs.GapSearch.{more_enough}
use Rattle.finder.proofs.HeldError.{held_one}
use Rattle.finder.proofs.Verdict.{best_held}
use Rattle.std.proofs.lemmas.List.Elements.{All-more, All-weaker}
use Rattle.finder.specs.Settlement.{IsContestedBy, IsFitted, IsFittedByNone, IsHeard, IsLeftOpen, IsSettledAs, IsShownBy, IsUnheard, NoneIsBeyond}
use Rattle.finder.specs.Settlement.{Settles, settled_data}
use Rattle.finder.specs.declared.settlement.Settled.{Settled}

-- ---- limits

-- an exchange of a claim with so many servers is one of a claim with as many as may be
pub of_most_servers : (servers : ℕ) (x : Exchange) → servers ≤ 32 → IsLawfulExchange servers x → IsLawfulExchange 32 x
of_most_servers servers x few h = let listed : x.server < 32 = omega arith in search rules

-- ---- the answers

module _ (claim : ClaimData) (xs : List Exchange) where
  -- an answer but an open one
  pub settled_as : (found : Settled) → IsSettledAs claim xs (settled_data found) → Settles claim xs (Ok found)
  settled_as found is = record { settled = is; refused = tt }

  -- no course fits, and all conflicts are told
  pub none_fits : (listed : List ShownConflict) → AreAllConflicts claim xs listed → ¬ (SomeCourse claim xs)
      → (SomeCourse claim xs ↔ HasSmallCover claim xs)
      → ((is_in : ℕ → Bool) → HoldsAnEnd is_in listed → IsCover claim xs is_in) → IsFittedByNone claim xs listed
  none_fits listed all no_course (to, from) covers = record {
    no_course = no_course;
    all = all;
    unaccounted = λ is_in small ends. no_course (from (is_in, covers is_in ends, small));
  }

  -- no more groups have an exchange than may be false
  pub unheard : (each : All (IsLawfulExchange (length claim.servers)) xs) → IsLawful claim
      → (IsLawful claim → All (IsLawfulExchange (length claim.servers)) xs
      → count_with_exchange claim xs ≤ claim.false_max → IsNoEvidence claim xs (count_with_exchange claim xs))
      → ((groups : ℕ) (certificate : CertificateData) → IsLawful claim
      → All (IsLawfulExchange (length claim.servers)) xs → IsNoEvidence claim xs groups
      → ¬ (verdict_of (samples_of xs claim) claim certificate ≡ Yes))
      → (groups : ℕ) → groups ≡ count_with_exchange claim xs → groups ≤ claim.false_max → IsUnheard claim xs groups
  unheard each lawful few_are_none none_is_accepted groups is few =
      grind (
        arith,
        ints,
        nat_tests,
        subst (IsNoEvidence claim xs) (sym is) (few_are_none lawful each (omega (
          arith,
          is,
          few,
        ))),
      )

  -- a certificate that shows the claim
  pub shown_by : IsLawful claim → AreSamplesOf claim (samples_of xs claim) → (certificate : Certificate)
      (ends : List ℤ) → IsFitted claim xs → AreEnds (samples_of xs claim) claim ends
      → (certificate_data certificate).pieces ≡ pieces_over (samples_of xs claim) claim claim.first ends
      → IsShownBy claim xs (certificate_data certificate)
  shown_by lawful are certificate ends courses is pieces =
      let samples = samples_of xs claim in
      let all = is.earlier ++ claim.last ∷ [] in
      let e = pieces ∙ ap (pieces_over samples claim claim.first) is.are in
      let span = first_in_span samples claim lawful are in
      let count : length (certificate_data certificate).pieces ≡ length is.earlier + 1 =
      ap length e ∙ as_many_pieces samples claim lawful are claim.first all
      ∙ length-append is.earlier (claim.last ∷ []) in
      let few = is.few in
      record {
        courses = courses;
        longest = record { earlier = is.earlier; longest = is.longest; last = is.last; few = few; pieces = e };
        accepted = ap (verdict_from samples claim 0 claim.first) e
            ∙ yes_from samples claim lawful are 0 claim.first is.earlier span is.longest is.last;
        fewest = λ other accepted.
            let more = more_of_accepted samples claim lawful are is.earlier is.longest other accepted in
            omega (arith, more, count);
        few = omega (arith, count, few);
      }

  -- a refutation that stands
  pub contested_by : (refutation : RefutationData) → IsHeard claim xs → SettlesWithDrift claim xs refutation true
      → IsContestedBy claim xs refutation
  contested_by refutation is_heard settles = grind arith

  -- the reading at which a course is observed lies in the tick that begins there
  pub observed : (begin end : ℤ) (course : Course) → begin ≤ℤ end
      → course.observation.reading ≡ (begin *ℤ pos course.fineness) → IsObservedIn course begin end
  observed begin end course forward is =
      omega (arith, ints, course.fineness, times_le begin end (course.fineness) forward)

  -- as some course fits, the samples don't contradict each other there, and so no certificate is accepted
  pub left_open : (begin end : ℤ) (hull : Hull) (covers : ℕ) (most : Option ℤ) → IsLawful claim
      → AreSamplesOf claim (samples_of xs claim) → IsHeard claim xs → IsFitted claim xs
      → IsStuck (samples_of xs claim) claim begin end hull → NoneIsRefuted claim xs
      → AreHeld claim xs (unsigned_abs begin ∷ unsigned_abs end ∷ []) covers
      → IfSome most (NoneIsBeyond claim xs) → IsLeftOpen claim xs begin end hull covers most
  left_open begin end hull covers most lawful are is_heard courses stuck none_refuted bounded within =
      let samples = samples_of xs claim in
      let stretch = stretch_over begin end in
      let holds_error : HoldsError claim samples stretch hull =
      subst (HoldsError claim samples stretch) (sym stuck.its_hull) (best_held claim samples stretch lawful are) in
      record {
        heard = is_heard;
        courses = courses;
        stuck = stuck;
        none_accepted = none_if_stuck samples claim lawful are begin end hull stuck (λ empty.
            let at = courses begin in
            let begins = stuck_at samples claim begin end hull lawful.span_forward stuck in
            subst (IsInHull at.0) empty (holds_error xs at.0 refl at.1.fits
            (observed begin end at.0 (omega (arith, ints, clamps, begins.to_last, stuck.ends)) at.2)));
        none_refuted = none_refuted;
        held = holds_error;
        bounded = bounded;
        within = within;
      }

-- ---- the most that the clock is off by

module _ (samples : List Sample) (claim : ClaimData) (covers : List Groups) where
  -- no tick needs more than so much with any of the first n covers left out, if that's known
  abbrev pub NeedNoMore : ℕ → Option ℕ → Type 0
  NeedNoMore n most =
      IfSome most (λ all. All (λ cover. NoneNeedsMore samples claim (holds cover) all) (take n covers))

  grown : (cover : ℕ → Bool) (all more : ℕ) → all ≤ more → NoneNeedsMore samples claim cover all
      → NoneNeedsMore samples claim cover more
  grown cover all more le none p is =
      more_enough samples claim cover all more (need_of (tick_without samples claim cover p)) le (none p is)

  pub one_more_needs : (n : ℕ) (other : Groups) (old new : Option ℕ) (found : Option Neediest) → n < length covers
      → NeedNoMore n old
      → IfSome new (λ all. IsSomeAnd old (λ before. before ≤ all)
      × IsSomeAnd found (λ last. IsTrue last.is_whole × (last.tick.ticks ≤ all)))
      → MatchOption found (IsBoundless samples claim (holds (get_or covers n other)))
      (IsNeediest samples claim (holds (get_or covers n other)))
      → NeedNoMore (n + 1) new
  one_more_needs n other old None found within before with' is = tt
  one_more_needs n other None (Some all) found within before with' is = absurd with'.0
  one_more_needs n other (Some b) (Some all) None within before with' is = absurd with'.1
  one_more_needs n other (Some b) (Some all) (Some last) within before with' is =
      All-more (λ cover. NoneNeedsMore samples claim (holds cover) all) covers n other within
      (All-weaker _ _ (λ cover none. grown (holds cover) b all with'.0 none) (take n covers) before)
      (grown (holds (get_or covers n other)) last.tick.ticks all with'.1.1 (is.most with'.1.0))

module _ (claim : ClaimData) (xs : List Exchange) (covers : List Groups) (least : AreLeastCovers claim xs covers)
    (cover_of : (course : Course) → FitsExchanges claim xs course
    → IsCover claim xs (holds_false claim.groups course.is_false))
    (lawful : IsLawful claim) (each : All (IsLawfulExchange (length claim.servers)) xs)
  where
    pub none_beyond : (n : ℕ) (old : Option ℕ) (new : Option ℤ) → length covers ≤ n
        → NeedNoMore (samples_of xs claim) claim covers n old
        → IfSome new (λ found. (length covers < 64) × (option_map pos old ≡ Some found))
        → IfSome new (NoneIsBeyond claim xs)
    none_beyond n old None past tried is = tt
    none_beyond n None (Some most) past tried is = absurd cc
    none_beyond n (Some all) (Some most) past tried is = λ course fits observed.
        let false_in : ℕ → Bool = holds_false claim.groups course.is_false in
        let same : pos all ≡ most = cc in
        ⊎_elim
        (λ one.
        let held = held_one (λ cover. NoneNeedsMore (samples_of xs claim) claim (holds cover) all) covers false_in
        (rw (take_all n covers past) at tried) one in
        subst (IsWithin course) same (within_most claim lawful xs each
        (are_samples xs claim lawful each) (holds held.0) course fits held.2 all held.1 observed))
        (λ many. absurd (omega (arith, many)))
        (least.all_or_64 false_in (cover_of course fits) fits.few_false)
