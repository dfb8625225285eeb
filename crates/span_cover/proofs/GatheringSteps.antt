-- The interval of a server's best samples, while samples are taken one by one.
use Rattle.std.proofs.Common.{rules}
use Rattle.span_cover.proofs.Common.{◌≡◌, ◌≢◌, ℕ, zero, suc, ◌<◌, ℤ, ◌≤ℤ◌, ◌⊎◌, inl, inr, neg_ℤ, List, [], ◌∷◌, ◌++◌, length, true, false, cond, int_lt, Option, None, Some, MatchOption, refl, sym, ◌∙◌, ap, subst, arith, replicate, set, get_or, int_max, int_min, option_and_then, cases_eq, ints, clamps, Interval, Sample, HasNoSample, best_of, Gathering, Gathered, best_interval, interval_between, moved_low, moved_high, piece_interval_of, int_lt-true, int_lt-false, nat_tests}
use Rattle.std.specs.List.{slice_get}
use Rattle.std.proofs.lemmas.Option.{same_Some, get_or_from_slice_get}
use Rattle.span_cover.proofs.BestSample.{AreBest, best_numbers}

-- ---- lists

-- an element of a list with one more at its end
one_more : (samples : List Sample) (s t : Sample) (i : ℕ) → slice_get (samples ++ s ∷ []) i ≡ Some t →
    (slice_get samples i ≡ Some t) ⊎ (s ≡ t)
one_more [] s t zero is = inr (same_Some s t is)
one_more [] s t (suc i) is = absurd cc
one_more (x ∷ samples) s t zero is = inl is
one_more (x ∷ samples) s t (suc i) is = one_more samples s t i is

still_stands : (samples : List Sample) (s t : Sample) (i : ℕ) → slice_get samples i ≡ Some t →
    slice_get (samples ++ s ∷ []) i ≡ Some t
still_stands [] s t i is = absurd cc
still_stands (x ∷ samples) s t zero is = is
still_stands (x ∷ samples) s t (suc i) is = still_stands samples s t i is

stands_last : (samples : List Sample) (s : Sample) → slice_get (samples ++ s ∷ []) (length samples) ≡ Some s
stands_last [] s = refl
stands_last (x ∷ samples) s = stands_last samples s

written : (entries : List (Option Interval)) (i : ℕ) (old new : Option Interval) → slice_get entries i ≡ Some old →
    slice_get (set entries i new) i ≡ Some new
written [] i old new is = absurd cc
written (x ∷ entries) zero old new is = refl
written (x ∷ entries) (suc i) old new is = written entries i old new is

unwritten : (entries : List (Option Interval)) (i j : ℕ) (new : Option Interval) → j ≢ i →
    slice_get (set entries i new) j ≡ slice_get entries j
unwritten [] i j new other = refl
unwritten (x ∷ entries) zero zero new other = absurd (other refl)
unwritten (x ∷ entries) zero (suc j) new other = refl
unwritten (x ∷ entries) (suc i) zero new other = refl
unwritten (x ∷ entries) (suc i) (suc j) new other = unwritten entries i j new (λ e. other (ap suc e))

abbrev nothing : Option Interval
nothing = None

pub none_at_first : (size i : ℕ) → i < size → slice_get (replicate size nothing) i ≡ Some nothing
none_at_first zero i h = absurd (omega arith)
none_at_first (suc size) zero h = refl
none_at_first (suc size) (suc i) h = none_at_first size i (omega arith)

-- ---- one end: the most merit of a server's samples

module _ (merit : Sample → ℤ) (server : ℕ) where
  pub record IsMost (samples : List Sample) (most : ℤ) : Type 0 where
    pub number : ℕ
    pub sample : Sample
    pub stands : slice_get samples number ≡ Some sample
    pub of_server : sample.server ≡ server
    pub value : most ≡ merit sample
    pub greatest : (i : ℕ) (s : Sample) → slice_get samples i ≡ Some s → s.server ≡ server → merit s ≤ℤ most

  pub most-one : (samples : List Sample) (a b : ℤ) → IsMost samples a → IsMost samples b → a ≡ b
  most-one samples a b first second =
      omega (
        arith,
        ints,
        first.greatest second.number second.sample second.stands second.of_server,
        second.greatest first.number first.sample first.stands first.of_server,
        first.value,
        second.value,
      )

  module _ (samples : List Sample) (s : Sample) where
    -- if no sample of the server has more than `most`, and one more hasn't either, then none of them all has
    none_above : (most : ℤ) →
        ((i : ℕ) (t : Sample) → slice_get samples i ≡ Some t → t.server ≡ server → merit t ≤ℤ most) →
        (s.server ≡ server → merit s ≤ℤ most) →
        (i : ℕ) (t : Sample) → slice_get (samples ++ s ∷ []) i ≡ Some t → t.server ≡ server → merit t ≤ℤ most
    none_above most before last i t is of = grind (arith, ints, nat_tests, one_more, s)

    -- the most stays, if the one sample more has no more
    pub most_stays : (most : ℤ) → IsMost samples most → (s.server ≡ server → merit s ≤ℤ most) →
        IsMost (samples ++ s ∷ []) most
    most_stays most is last =
        search (rules, still_stands samples s is.sample is.number is.stands, none_above most is.greatest last)

    -- it is that of the one sample more, if no sample before has more
    pub most_of_last : s.server ≡ server →
        ((i : ℕ) (t : Sample) → slice_get samples i ≡ Some t → t.server ≡ server → merit t ≤ℤ merit s) →
        IsMost (samples ++ s ∷ []) (merit s)
    most_of_last of before = record {
      number = length samples;
      sample = s;
      stands = stands_last samples s;
      of_server = of;
      value = refl;
      greatest = none_above (merit s) before (λ of. omega (arith, ints));
    }

    -- one sample more of the server
    pub most_of_both : s.server ≡ server → (most greater : ℤ) → IsMost samples most →
        greater ≡ int_max most (merit s) → IsMost (samples ++ s ∷ []) greater
    most_of_both of most greater is e =
        elim (int_lt (merit s) most) as
        (λ t. int_lt (merit s) most ≡ t → greater ≡ cond t most (merit s) → IsMost (samples ++ s ∷ []) greater) [
          | true ↦ λ less e.
              let no_more = int_lt-true (merit s) most less in
              subst (IsMost (samples ++ s ∷ [])) (sym e) (most_stays most is (λ of. omega (arith, ints)))
          | false ↦ λ more e.
              let no_less = int_lt-false (merit s) most more in
              subst (IsMost (samples ++ s ∷ [])) (sym e)
              (most_of_last of (λ i t at of_t. omega (arith, ints, is.greatest i t at of_t)))
        ] refl e

-- ---- both ends

abbrev interval : ℤ → ℤ → Interval
interval lo hi = record { lo = lo; hi = hi }

same_interval : (a b : Interval) → a.lo ≡ b.lo → neg_ℤ a.hi ≡ neg_ℤ b.hi → a ≡ b
same_interval a b lo hi = grind (arith, ints, nat_tests)

negated_min : (least high moved : ℤ) → least ≡ int_min high moved → neg_ℤ least ≡ int_max (neg_ℤ high) (neg_ℤ moved)
negated_min least high moved e = omega (arith, ints, clamps)

module _ (server : ℕ) (p q : ℤ) (ppb : ℕ) where
  -- this interval is the narrowest by samples of the server
  pub record IsNarrowest (samples : List Sample) (interval : Interval) : Type 0 where
    pub low : IsMost (λ s. moved_low s p q ppb) server samples interval.lo
    pub high : IsMost (λ s. neg_ℤ (moved_high s p q ppb)) server samples (neg_ℤ interval.hi)

  abbrev pub IsEntry : List Sample → Option Interval → Type 0
  IsEntry samples entry = MatchOption entry (HasNoSample samples server) (IsNarrowest samples)

  -- there is one entry
  one_entry : (samples : List Sample) (a b : Option Interval) → IsEntry samples a → IsEntry samples b → a ≡ b
  one_entry samples None None first second = refl
  one_entry samples None (Some b) first second =
      absurd (first second.low.number second.low.sample second.low.stands second.low.of_server)
  one_entry samples (Some a) None first second =
      absurd (second first.low.number first.low.sample first.low.stands first.low.of_server)
  one_entry samples (Some a) (Some b) first second =
      ap Some (same_interval a b
      (most-one (λ s. moved_low s p q ppb) server samples a.lo b.lo first.low second.low)
      (most-one (λ s. neg_ℤ (moved_high s p q ppb)) server samples (neg_ℤ a.hi) (neg_ℤ b.hi) first.high second.high))

  -- the interval of the best samples is the entry
  best_entry : (samples : List Sample) → IsEntry samples (best_interval samples server p q ppb)
  best_entry samples =
      elim (best_of samples server p q ppb) as
      (λ (o : Option (ℕ × ℕ)). MatchOption o (HasNoSample samples server) (AreBest samples server p q ppb) →
      IsEntry samples (option_and_then
      (λ best. interval_between (slice_get samples best.0) (slice_get samples best.1) p q ppb) o)) [
        | None ↦ λ none. none
        | Some best ↦ λ are. rw (are.0.stands, are.1.stands) (record { low = search rules; high = search rules })
      ] (best_numbers samples server p q ppb)

  pub entry-is : (samples : List Sample) (entry : Option Interval) → IsEntry samples entry →
      entry ≡ best_interval samples server p q ppb
  entry-is samples entry is = one_entry samples entry (best_interval samples server p q ppb) is (best_entry samples)

  module _ (samples : List Sample) (s : Sample) where
    -- one sample more of another server
    pub other_server : s.server ≢ server →
        best_interval (samples ++ s ∷ []) server p q ppb ≡ best_interval samples server p q ppb
    other_server other =
        sym (entry-is (samples ++ s ∷ []) (best_interval samples server p q ppb)
        (stays (best_interval samples server p q ppb) (best_entry samples)))
      where
        no_sample : HasNoSample samples server → HasNoSample (samples ++ s ∷ []) server
        no_sample none i t is =
            elim (one_more samples s t i is) [
              | inl stands ↦ none i t stands
              | inr same ↦ subst (λ (u : Sample). u.server ≢ server) same other
            ]

        stays : (entry : Option Interval) → IsEntry samples entry → IsEntry (samples ++ s ∷ []) entry
        stays None none = no_sample none
        stays (Some so_far) is = record {
          low = most_stays (λ s. moved_low s p q ppb) server samples s so_far.lo is.low (λ same. absurd (other same));
          high = most_stays (λ s. neg_ℤ (moved_high s p q ppb)) server samples s (neg_ℤ so_far.hi) is.high
              (λ same. absurd (other same));
        }

    -- the first sample of the server
    pub first_sample : s.server ≡ server → best_interval samples server p q ppb ≡ None →
        best_interval (samples ++ s ∷ []) server p q ppb ≡ Some (piece_interval_of s s p q ppb)
    first_sample same before =
        let none : IsEntry samples None = subst (IsEntry samples) before (best_entry samples) in
        sym (entry-is (samples ++ s ∷ []) (Some (piece_interval_of s s p q ppb)) (record {
          low = most_of_last (λ s. moved_low s p q ppb) server samples s same (λ i t is of. absurd (none i t is of));
          high = most_of_last (λ s. neg_ℤ (moved_high s p q ppb)) server samples s same
              (λ i t is of. absurd (none i t is of));
        }))

    -- one sample more of the server
    pub same_server : s.server ≡ server → (so_far next : Interval) →
        best_interval samples server p q ppb ≡ Some so_far → next.lo ≡ int_max so_far.lo (moved_low s p q ppb) →
        next.hi ≡ int_min so_far.hi (moved_high s p q ppb) →
        best_interval (samples ++ s ∷ []) server p q ppb ≡ Some next
    same_server same so_far next before lo hi =
        let is : IsEntry samples (Some so_far) = subst (IsEntry samples) before (best_entry samples) in
        sym (entry-is (samples ++ s ∷ []) (Some next) (record {
          low = most_of_both (λ s. moved_low s p q ppb) server samples s same so_far.lo next.lo is.low lo;
          high = most_of_both (λ s. neg_ℤ (moved_high s p q ppb)) server samples s same (neg_ℤ so_far.hi)
              (neg_ℤ next.hi) is.high (negated_min next.hi so_far.hi (moved_high s p q ppb) hi);
        }))

-- ---- the entries of all servers

-- no sample was taken
pub none_taken : (p q : ℤ) (ppb : ℕ) (gathering : Gathering) → gathering.p ≡ p → gathering.q ≡ q →
    gathering.drift_ppb ≡ ppb → gathering.intervals ≡ replicate 32 nothing → Gathered [] p q ppb gathering
none_taken p q ppb gathering from to rate all = record {
  from = from;
  to = to;
  rate = rate;
  entries = λ server within.
      rw all
      (none_at_first 32 server within
      ∙ ap Some (entry-is server p q ppb [] nothing (λ i s is. let no : slice_get [] i ≡ Some s = is in absurd cc)));
}

module _ (samples : List Sample) (p q : ℤ) (ppb : ℕ) where
  -- what stands at a server's number
  pub entry_known : (old : Gathering) → Gathered samples p q ppb old → (server : ℕ) → server < 32 →
      (entry default : Option Interval) → get_or old.intervals server default ≡ entry →
      best_interval samples server p q ppb ≡ entry
  entry_known old gathered server within entry default is =
      sym (get_or_from_slice_get old.intervals server (best_interval samples server p q ppb) default
      (gathered.entries server within)) ∙ is

  module _ (s : Sample) where
    -- the entry of a sample's server is written anew
    pub one_taken : (old new : Gathering) → Gathered samples p q ppb old → s.server < 32 → (next : Interval) →
        best_interval (samples ++ s ∷ []) s.server p q ppb ≡ Some next →
        new ≡ record old { intervals = set old.intervals s.server (Some next) } →
        Gathered (samples ++ s ∷ []) p q ppb new
    one_taken old new gathered within next is e = rw e (record {
      from = gathered.from;
      to = gathered.to;
      rate = gathered.rate;
      entries = λ server below.
          elim (cases_eq s.server server) [
            | inl same ↦
                subst (λ (n : ℕ). slice_get (set old.intervals s.server (Some next)) n ≡
                Some (best_interval (samples ++ s ∷ []) n p q ppb)) same
                (written old.intervals s.server (best_interval samples s.server p q ppb) (Some next)
                (gathered.entries s.server within) ∙ ap Some (sym is))
            | inr other ↦
                unwritten old.intervals s.server server (Some next) (λ e. other (sym e))
                ∙ gathered.entries server below ∙ ap Some (sym (other_server server p q ppb samples s other))
          ];
    })
