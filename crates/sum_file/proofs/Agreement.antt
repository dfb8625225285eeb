-- Lines that are all good, and one more line below them.
use Rattle.sum_file.proofs.Common.{arith, ◌≡◌, ℕ, length, map, Bool, true, false, cond, ◌&&◌, List, [], ◌∷◌, ◌++◌, Option, Some, None, option_map, option_and_then, refl, sym, ap, ◌∙◌, length-map, list_all-append, line_of, all_said, agreed, SumData, agree, all_agree}
use Rattle.sum_file.proofs.Pairs.{each_agrees}

-- sums, if they agree
abbrev pub if_agree : List SumData → Option (List SumData)
if_agree sums = cond (all_agree sums) (Some sums) None

-- sums with one more, if it agrees with each of them
abbrev pub with_one : List SumData → SumData → Option (List SumData)
with_one sums sum = cond (each_agrees sums sum) (Some (sums ++ sum ∷ [])) None

-- what lines say, and after it what others say
abbrev joined : Option (List SumData) → Option (List SumData) → Option (List SumData)
joined None more = None
joined (Some sums) more = option_map (λ s. sums ++ s) more

said_more : (first : Option SumData) (xs ys whole : Option (List SumData)) → whole ≡ joined xs ys
    → option_and_then (λ sum. option_map (λ s. sum ∷ s) whole) first
    ≡ joined (option_and_then (λ sum. option_map (λ s. sum ∷ s) xs) first) ys
said_more None xs ys whole is = refl
said_more (Some sum) None ys whole is = ap (option_map (λ s. sum ∷ s)) is
said_more (Some sum) (Some sums) ys whole is = grind (arith, sum)

all_said-append : (xs ys : List (List ℕ)) → all_said (xs ++ ys) ≡ joined (all_said xs) (all_said ys)
all_said-append [] ys = grind arith
all_said-append (x ∷ xs) ys = grind (arith, said_more, all_said-append xs ys)

-- sums that a list says, if they agree
if_agree-is : (said : Option (List SumData)) (sums : List SumData)
    → option_and_then if_agree said ≡ Some sums → (said ≡ Some sums) × (all_agree sums ≡ true)
if_agree-is None sums is = cc
if_agree-is (Some s) sums is = from (all_agree s) refl is where
  from : (b : Bool) → all_agree s ≡ b → cond b (Some s) None ≡ Some sums
      → (Some s ≡ Some sums) × (all_agree sums ≡ true)
  from true agree is' = (is', let e : s ≡ sums = cc in ap all_agree (sym e) ∙ agree)
  from false agree is' = cc

-- lines that are all good say their sums, and these agree
pub agreed-said : (lines : List (List ℕ)) (sums : List SumData) → agreed lines ≡ Some sums
    → (all_said lines ≡ Some sums) × (all_agree sums ≡ true)
agreed-said lines sums is = if_agree-is (all_said lines) sums is

-- one sum more
all_agree-push : (sums : List SumData) (sum : SumData)
    → all_agree (sums ++ sum ∷ []) ≡ (all_agree sums && each_agrees sums sum)
all_agree-push [] sum = refl
all_agree-push (s ∷ sums) sum = grind (arith, sum, list_all-append, each_agrees, all_agree-push sums sum)

all_agree-front : (xs ys : List SumData) → all_agree xs ≡ false → all_agree (xs ++ ys) ≡ false
all_agree-front [] ys is = cc
all_agree-front (x ∷ xs) ys is = grind (arith, list_all-append, all_agree-front xs ys)

-- one line more: it has to say a sum that agrees with those before it
agreed_with : (sums : List SumData) (said : Option SumData) → all_agree sums ≡ true
    → option_and_then if_agree
    (joined (Some sums) (option_and_then (λ sum. option_map (λ s. sum ∷ s) (Some [])) said))
    ≡ option_and_then (with_one sums) said
agreed_with sums None together = refl
agreed_with sums (Some sum) together = grind (arith, sum, all_agree-push, each_agrees)

pub agreed-push : (lines : List (List ℕ)) (line : List ℕ) (sums : List SumData) → agreed lines ≡ Some sums
    → agreed (lines ++ line ∷ [])
    ≡ option_and_then (with_one sums) (line_of line)
agreed-push lines line sums is =
    let said = agreed-said lines sums is in
    ap (option_and_then if_agree)
    (all_said-append lines (line ∷ []) ∙ ap (λ s. joined s (all_said (line ∷ []))) said.0)
    ∙ agreed_with sums (line_of line) said.1

-- lines that aren't all good stay so with others below them
front_refused : (xs ys : Option (List SumData)) → option_and_then if_agree xs ≡ None
    → option_and_then if_agree (joined xs ys) ≡ None
front_refused None ys is = refl
front_refused (Some xs) None is = refl
front_refused (Some xs) (Some ys) is = from (all_agree xs) refl is where
  from : (b : Bool) → all_agree xs ≡ b → cond b (Some xs) None ≡ None → if_agree (xs ++ ys) ≡ None
  from true agree is' = cc
  from false agree is' = ap (λ b. cond b (Some (xs ++ ys)) None) (all_agree-front xs ys agree)

pub agreed-front : (xs ys : List (List ℕ)) → agreed xs ≡ None → agreed (xs ++ ys) ≡ None
agreed-front xs ys is =
    ap (option_and_then if_agree) (all_said-append xs ys) ∙ front_refused (all_said xs) (all_said ys) is

-- the first of some lines, and those below it
record IsFirstSaid (first : Option SumData) (rest : Option (List SumData)) (sums : List SumData) : Type 0 where
  pub sum : SumData
  pub more : List SumData
  pub first_is : first ≡ Some sum
  pub rest_is : rest ≡ Some more
  pub whole : sum ∷ more ≡ sums

first_said : (first : Option SumData) (rest : Option (List SumData)) (sums : List SumData)
    → option_and_then (λ sum. option_map (λ s. sum ∷ s) rest) first ≡ Some sums → IsFirstSaid first rest sums
first_said None rest sums is = cc
first_said (Some sum) None sums is = cc
first_said (Some sum) (Some more) sums is =
    record { sum = sum; more = more; first_is = refl; rest_is = refl; whole = cc }

-- lines that say these sums, one by one
pub map-said : (lines : List (List ℕ)) (sums : List SumData) → all_said lines ≡ Some sums
    → map line_of lines ≡ map Some sums
map-said [] sums is = let e : [] ≡ sums = cc in ap (map Some) e
map-said (line ∷ lines) sums is =
    let first = first_said (line_of line) (all_said lines) sums is in
    ap (λ s. s ∷ map line_of lines) first.first_is
    ∙ ap (λ s. Some first.sum ∷ s) (map-said lines first.more first.rest_is)
    ∙ ap (map Some) first.whole

pub said-map : (lines : List (List ℕ)) (sums : List SumData) → map line_of lines ≡ map Some sums
    → all_said lines ≡ Some sums
said-map [] [] is = refl
said-map [] (sum ∷ sums) is = cc
said-map (line ∷ lines) [] is = cc
said-map (line ∷ lines) (sum ∷ sums) is =
    let first : line_of line ≡ Some sum = cc in
    let more : map line_of lines ≡ map Some sums = cc in
    ap (option_and_then (λ s. option_map (λ m. s ∷ m) (all_said lines))) first
    ∙ ap (option_map (λ m. sum ∷ m)) (said-map lines sums more)

-- sums that lines say and that agree
pub agreed-from : (lines : List (List ℕ)) (sums : List SumData) → map line_of lines ≡ map Some sums
    → all_agree sums ≡ true → agreed lines ≡ Some sums
agreed-from lines sums said together = grind (arith, option_and_then, said-map)

-- as many lines as sums
pub length-agreed : (lines : List (List ℕ)) (sums : List SumData) → agreed lines ≡ Some sums
    → length sums ≡ length lines
length-agreed lines sums is =
    sym (length-map sums Some) ∙ ap length (sym (map-said lines sums (agreed-said lines sums is).0))
    ∙ length-map lines line_of
