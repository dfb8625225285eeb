-- Marzullo's walk along ends in order stops at the least or the greatest point that enough intervals have.
--
-- Of the ends before a point p in the walk, those that enter an interval are counted by `entered_by`, and those that
-- leave one by `left_by`: p lies in as many intervals as the one is above the other.
use Rattle.intersection.proofs.Common.{◌≡◌, ℕ, suc, ◌+◌, ◌<◌, ◌≤◌, ℤ, ◌<ℤ◌, int_lt, int_le, nat_le, Bool, true, false, cond, not, ◌&&◌, List, [], ◌∷◌, length, count_by, reverse, Option, Some, IfSome, refl, sym, ap, ◌∙◌, subst, arith, ⊤, AllPairs, AllByRecursion, ints, sum_by-cons, and_left, and_right, and_from, not_from_true, not_from_false, cond-true, cond-false, nat_tests, MayPrecede, is_low, enters, first_reached, End, Side, Low, High, by_test}
use Rattle.std.proofs.lemmas.List.{get_or-reverse, length-reverse}
use Rattle.std.proofs.lemmas.List.Elements.{recursion_from_All}

-- the second may come after the first in a walk that enters at this side
abbrev pub Follows : Side → End → End → Type 0
Follows Low x y = MayPrecede x y
Follows High x y = MayPrecede y x

-- the walk meets the end before it has passed the point: ends that enter at the point, and those that leave short of it
abbrev pub is_met : Side → ℤ → End → Bool
is_met Low p e = cond (is_low e.side) (int_le e.at p) (int_lt e.at p)
is_met High p e = cond (is_low e.side) (int_lt p e.at) (int_le p e.at)

-- the walk comes by p before q
abbrev pub IsShortOf : Side → ℤ → ℤ → Type 0
IsShortOf Low p q = p <ℤ q
IsShortOf High p q = q <ℤ p

abbrev pub entered_by : Side → ℤ → List End → ℕ
entered_by side p ends = count_by (λ e. enters side e && is_met side p e) ends

abbrev pub left_by : Side → ℤ → List End → ℕ
left_by side p ends = count_by (λ e. not (enters side e) && is_met side p e) ends

-- ---- two ends, one after the other
unmet_after_at : (walk : Side) (p a b : ℤ) (s t : Side)
    → Follows walk (record { at = a; side = s }) (record { at = b; side = t })
    → is_met walk p (record { at = a; side = s }) ≡ false → is_met walk p (record { at = b; side = t }) ≡ false
unmet_after_at Low p a b Low Low h k = grind (arith, ints)
unmet_after_at Low p a b Low High h k = grind (arith, ints)
unmet_after_at Low p a b High Low h k = let above = h.1 refl refl in grind (arith, ints)
unmet_after_at Low p a b High High h k = grind (arith, ints)
unmet_after_at High p a b Low Low h k = grind (arith, ints)
unmet_after_at High p a b Low High h k = let above = h.1 refl refl in grind (arith, ints)
unmet_after_at High p a b High Low h k = grind (arith, ints)
unmet_after_at High p a b High High h k = grind (arith, ints)

-- what comes after an end that isn't met before p isn't met before it either
unmet_after : (walk : Side) (p : ℤ) (x y : End) → Follows walk x y → is_met walk p x ≡ false → is_met walk p y ≡ false
unmet_after walk p x y = unmet_after_at walk p x.at y.at x.side y.side

-- in a walk down, the high ends enter and the low ones leave
high_enters : (low : Bool) → cond low false true ≡ true → low ≡ false
high_enters true h = cc
high_enters false h = refl

low_leaves : (low : Bool) → cond low false true ≡ false → low ≡ true
low_leaves true h = refl
low_leaves false h = cc

met_itself : (walk : Side) (x : End) → enters walk x ≡ true → is_met walk x.at x ≡ true
met_itself Low x h = rw h (grind (arith, ints))
met_itself High x h = rw (high_enters (is_low x.side) h) (grind (arith, ints))

-- an end that leaves, after another, isn't met before the other's point
unmet_leaving : (walk : Side) (x y : End) → Follows walk x y → enters walk y ≡ false → is_met walk x.at y ≡ false
unmet_leaving Low x y h k = let le = h.0 in rw k (grind (arith, ints))
unmet_leaving High x y h k = let le = h.0 in rw (low_leaves (is_low y.side) k) (grind (arith, ints))

-- at a point that the walk comes by before it, an end that enters isn't met
short_unmet : (walk : Side) (p : ℤ) (x : End) → IsShortOf walk p x.at → enters walk x ≡ true → is_met walk p x ≡ false
short_unmet Low p x h k = rw k (grind (arith, ints))
short_unmet High p x h k = rw (high_enters (is_low x.side) k) (grind (arith, ints))

-- ---- lists in order, by recursion
abbrev pub Ordered : (End → End → Type 0) → List End → Type 0
Ordered R [] = ⊤
Ordered R (x ∷ xs) = AllByRecursion (R x) xs × Ordered R xs

pub ordered_from_pairs : (R : End → End → Type 0) (xs : List End) → AllPairs R xs → Ordered R xs
ordered_from_pairs R [] h = tt
ordered_from_pairs R (x ∷ xs) h = (
  recursion_from_All (R x) xs (λ k d below. h 0 (suc k) d (omega arith) (omega arith)),
  ordered_from_pairs R xs (λ i j d less below. h (suc i) (suc j) d (omega arith) (omega arith)),
)

pub pairs_reversed : (R : End → End → Type 0) (xs : List End) → AllPairs R xs → AllPairs (λ x y. R y x) (reverse xs)
pairs_reversed R xs h i j d less below = grind (arith, length-reverse, get_or-reverse, length)

-- ---- counts
none_counted : (q : End → Bool) (xs : List End) → AllByRecursion (λ x. q x ≡ false) xs → count_by q xs ≡ 0
none_counted q [] h = refl
none_counted q (x ∷ xs) h = sum_by-cons _ x xs ∙ rw (h.0, none_counted q xs h.1) refl

weaker : (P Q : End → Type 0) → ((x : End) → P x → Q x) → (xs : List End) → AllByRecursion P xs → AllByRecursion Q xs
weaker P Q f [] h = tt
weaker P Q f (x ∷ xs) h = (f x h.0, weaker P Q f xs h.1)

count_yes : (q : End → Bool) (x : End) (xs : List End) → q x ≡ true → count_by q (x ∷ xs) ≡ 1 + count_by q xs
count_yes q x xs h = sum_by-cons _ x xs ∙ ap (λ n. n + count_by q xs) (cond-true (q x) 1 0 h)

count_no : (q : End → Bool) (x : End) (xs : List End) → q x ≡ false → count_by q (x ∷ xs) ≡ count_by q xs
count_no q x xs h = sum_by-cons _ x xs ∙ ap (λ n. n + count_by q xs) (cond-false (q x) 1 0 h) ∙ omega arith

-- an end that enters and is met
entered_more : (walk : Side) (p : ℤ) (e : End) (es : List End) → enters walk e ≡ true → is_met walk p e ≡ true
    → (entered_by walk p (e ∷ es) ≡ 1 + entered_by walk p es) × (left_by walk p (e ∷ es) ≡ left_by walk p es)
entered_more walk p e es h m = (
  count_yes _ e es (and_from (enters walk e) (is_met walk p e) h m),
  count_no _ e es (and_left (not (enters walk e)) (is_met walk p e) (not_from_true (enters walk e) h)),
)

-- an end that leaves and is met
left_more : (walk : Side) (p : ℤ) (e : End) (es : List End) → enters walk e ≡ false → is_met walk p e ≡ true
    → (entered_by walk p (e ∷ es) ≡ entered_by walk p es) × (left_by walk p (e ∷ es) ≡ 1 + left_by walk p es)
left_more walk p e es h m = (
  count_no _ e es (and_left (enters walk e) (is_met walk p e) h),
  count_yes _ e es (and_from (not (enters walk e)) (is_met walk p e) (not_from_false (enters walk e) h) m),
)

-- an end that isn't met: neither it nor an end after it counts
unmet_rest : (walk : Side) (p : ℤ) (e : End) (es : List End) → AllByRecursion (Follows walk e) es
    → is_met walk p e ≡ false → (entered_by walk p (e ∷ es) ≡ 0) × (left_by walk p (e ∷ es) ≡ 0)
unmet_rest walk p e es after m =
    let rest = weaker (Follows walk e) (λ y. is_met walk p y ≡ false) (λ y h. unmet_after walk p e y h m) es after in (
      none_counted _ (e ∷ es) (
        and_right (enters walk e) (is_met walk p e) m,
        weaker _ _
            (λ y h. and_right (enters walk y) (is_met walk p y) h) es rest,
      ),
      none_counted _ (e ∷ es) (
        and_right (not (enters walk e)) (is_met walk p e) m,
        weaker _ _
            (λ y h. and_right (not (enters walk y)) (is_met walk p y) h) es rest,
      ),
    )

-- ---- one step of a walk
stops : (walk : Side) (needed entered left : ℕ) (e : End) (es : List End) → enters walk e ≡ true
    → nat_le (left + needed) (entered + 1) ≡ true → first_reached walk needed entered left (e ∷ es) ≡ Some e.at
stops walk needed entered left e es h k = cc

goes_on : (walk : Side) (needed entered left : ℕ) (e : End) (es : List End) → enters walk e ≡ true
    → nat_le (left + needed) (entered + 1) ≡ false
    → first_reached walk needed entered left (e ∷ es) ≡ first_reached walk needed (entered + 1) left es
goes_on walk needed entered left e es h k = cc

leaves : (walk : Side) (needed entered left : ℕ) (e : End) (es : List End) → enters walk e ≡ false
    → first_reached walk needed entered left (e ∷ es) ≡ first_reached walk needed entered (left + 1) es
leaves walk needed entered left e es h = cond-false (enters walk e) _ _ h

-- ---- what a walk says about points, if `needed` more intervals have to be entered than left
module _ (walk : Side) (needed : ℕ) where
  -- Too few are entered at a point that the walk comes by before it stops, or at any if it doesn't stop.
  abbrev pub TooFew : ℕ → ℕ → ℤ → List End → Type 0
  TooFew entered left p ends = entered + entered_by walk p ends < left + left_by walk p ends + needed

  -- where it stops, enough are
  abbrev pub Enough : ℕ → ℕ → ℤ → List End → Type 0
  Enough entered left q ends = left + left_by walk q ends + needed ≤ entered + entered_by walk q ends

  -- an end that enters before all of these ends is met
  abbrev pub MeetsEarlier : ℤ → List End → Type 0
  MeetsEarlier q ends =
      (z : End) → AllByRecursion (Follows walk z) ends → enters walk z ≡ true → is_met walk q z ≡ true

  -- from any counts on, a walk along these ends that ends as r has too few entered at p
  abbrev pub StaysShort : List End → Option ℤ → ℤ → Type 0
  StaysShort ends r p = (entered left : ℕ) → first_reached walk needed entered left ends ≡ r
      → entered < left + needed → TooFew entered left p ends

  -- from any counts on, a walk along these ends that stops at q has enough entered there
  abbrev pub ReachesEnough : List End → ℤ → Type 0
  ReachesEnough ends q = (entered left : ℕ) → first_reached walk needed entered left ends ≡ Some q
      → Enough entered left q ends × MeetsEarlier q ends

  -- one end of the walk, and those after it
  module _ (e : End) (es : List End) where
    not_reached : (entered left : ℕ) (p : ℤ) (r : Option ℤ) → IfSome r (λ q. IsShortOf walk p q)
        → enters walk e ≡ true → is_met walk p e ≡ true → nat_le (left + needed) (entered + 1) ≡ true
        → first_reached walk needed entered left (e ∷ es) ≡ r → ⊥
    not_reached entered left p r short entering met reached is = grind (arith, stops, short_unmet)

    short_step : (entered left : ℕ) (p : ℤ) (r : Option ℤ) (met entering reached : Bool)
        → is_met walk p e ≡ met → enters walk e ≡ entering → nat_le (left + needed) (entered + 1) ≡ reached
        → AllByRecursion (Follows walk e) es → IfSome r (λ q. IsShortOf walk p q)
        → first_reached walk needed entered left (e ∷ es) ≡ r → entered < left + needed
        → StaysShort es r p → TooFew entered left p (e ∷ es)
    short_step entered left p r false entering reached m n k after short is h rest =
        let none = unmet_rest walk p e es after m in omega arith
    short_step entered left p r true false reached m n k after short is h rest =
        let more = left_more walk p e es n m in
        let later = rest entered (left + 1) (sym (leaves walk needed entered left e es n) ∙ is) (omega arith) in
        omega arith
    short_step entered left p r true true false m n k after short is h rest =
        let more = entered_more walk p e es n m in
        let below : entered + 1 < left + needed = grind (arith, nat_tests) in
        let later = rest (entered + 1) left (sym (goes_on walk needed entered left e es n k) ∙ is) below in
        omega arith
    short_step entered left p r true true true m n k after short is h rest =
        absurd (not_reached entered left p r short n m k is)

    -- no end after one that enters is left before its point
    none_left_after : AllByRecursion (Follows walk e) es → left_by walk e.at es ≡ 0
    none_left_after after =
        grind (arith, none_counted, weaker, by_test, enters, and_left, not, not_from_true, and_right, unmet_leaving)

    -- an end that leaves adds one to those left, if it's met, and nothing to those entered
    leaving_adds : (q : ℤ) → enters walk e ≡ false
        → (entered_by walk q (e ∷ es) ≡ entered_by walk q es) × (left_by walk q (e ∷ es) ≤ 1 + left_by walk q es)
    leaving_adds q n = (
      count_no _ e es (and_left (enters walk e) (is_met walk q e) n),
      by_test (not (enters walk e) && is_met walk q e)
          (λ passes. omega (arith, count_yes (λ x. not (enters walk x) && is_met walk q x) e es passes))
          (λ fails. omega (arith, count_no (λ x. not (enters walk x) && is_met walk q x) e es fails)),
    )

    stop_here : (entered left : ℕ) → AllByRecursion (Follows walk e) es → enters walk e ≡ true
        → nat_le (left + needed) (entered + 1) ≡ true
        → Enough entered left e.at (e ∷ es) × MeetsEarlier e.at (e ∷ es)
    stop_here entered left after entering reached =
        grind (arith, entered_more walk e.at e es entering (met_itself walk e entering), none_left_after after)

    stop_step : (entered left : ℕ) (q : ℤ) (entering reached : Bool) → enters walk e ≡ entering
        → nat_le (left + needed) (entered + 1) ≡ reached → AllByRecursion (Follows walk e) es
        → first_reached walk needed entered left (e ∷ es) ≡ Some q → ReachesEnough es q
        → Enough entered left q (e ∷ es) × MeetsEarlier q (e ∷ es)
    stop_step entered left q false reached n k after is rest =
        let later = rest entered (left + 1) (sym (leaves walk needed entered left e es n) ∙ is) in
        let enough = later.0 in
        let adds = leaving_adds q n in
        (omega arith, λ z follows enters_z. later.1 z follows.1 enters_z)
    stop_step entered left q true false n k after is rest =
        let later = rest (entered + 1) left (sym (goes_on walk needed entered left e es n k) ∙ is) in
        let enough = later.0 in
        let more = entered_more walk q e es n (later.1 e after n) in
        (omega arith, λ z follows enters_z. later.1 z follows.1 enters_z)
    stop_step entered left q true true n k after is rest =
        let same : Some e.at ≡ Some q = sym (stops walk needed entered left e es n k) ∙ is in
        let at : e.at ≡ q = cc in
        subst (λ (p : ℤ). Enough entered left p (e ∷ es)
        × MeetsEarlier p (e ∷ es)) at (stop_here entered left after n k)

  pub short_of_stop : (entered left : ℕ) (p : ℤ) (ends : List End) (r : Option ℤ) → Ordered (Follows walk) ends
      → first_reached walk needed entered left ends ≡ r → IfSome r (λ q. IsShortOf walk p q)
      → entered < left + needed → TooFew entered left p ends
  short_of_stop entered left p [] r o is short h = omega arith
  short_of_stop entered left p (e ∷ es) r o is short h =
      short_step e es entered left p r (is_met walk p e) (enters walk e) (nat_le (left + needed) (entered + 1))
      refl refl refl o.0 short is h
      (λ entered' left' is' h'. short_of_stop entered' left' p es r o.1 is' short h')

  pub stop_reaches : (entered left : ℕ) (ends : List End) (q : ℤ) → Ordered (Follows walk) ends
      → first_reached walk needed entered left ends ≡ Some q → Enough entered left q ends × MeetsEarlier q ends
  stop_reaches entered left [] q o is = absurd cc
  stop_reaches entered left (e ∷ es) q o is =
      stop_step e es entered left q (enters walk e) (nat_le (left + needed) (entered + 1)) refl refl o.0 is
      (λ entered' left' is'. stop_reaches entered' left' es q o.1 is')
