-- What a file of sums says.
--
-- Its lines are ended by line feeds; the last may lack its own. A carriage return before a line's
-- end belongs to the ending. Every line has to say a sum, and no two lines may give one name two
-- digests. The fault of a file is its first bad line, numbered from 1: of two lines that disagree
-- the later one is bad.
use Rattle.std.specs.Prelude.{◌≡◌, ◌≢◌, ℕ, ◌+◌, ◌-◌, ◌⊎◌, ◌==◌, nat_eq, List, [], ◌∷◌, ◌++◌, length, map, take, find, All, AllPairs, Any, Contains, Option, Some, None, option_map, option_and_then, is_none, ok_or, unwrap_or, Result, Ok, Err, if◌then◌else◌}
use Rattle.std.specs.List.{concat, ends_with, range_with_len, slice_split}
use Rattle.sum_file.specs.declared.fault.SumFault.{SumFault}
use Rattle.sum_file.specs.declared.fault.SumFault.TheVariants.{Form}
use Rattle.sum_file.specs.Line.{line_of, written}
use Rattle.sum_file.specs.Name.{line_feed, carriage_return}
use Rattle.sum_file.specs.Sum.{Agree, Disagree, SumData, all_agree, digest_named}

-- the bytes without this one at their end, if it stands there
abbrev pub without_last : ℕ → List ℕ → List ℕ
without_last byte bytes =
    if ends_with nat_eq bytes (byte ∷ []) then take (length bytes - 1) bytes else bytes

-- the lines of a text: it is cut at its line feeds, but for one at its end; the empty text has none
abbrev pub lines_of : List ℕ → List (List ℕ)
lines_of [] = []
lines_of (byte ∷ more) =
    map (without_last carriage_return)
    (slice_split (λ b. b == line_feed) (without_last line_feed (byte ∷ more)))

-- the text of these lines, each ended by a line feed
abbrev pub ended : List (List ℕ) → List ℕ
ended lines = concat (map (λ line. line ++ line_feed ∷ []) lines)

-- bytes without a line feed among them
abbrev pub HasNoFeed : List ℕ → Type 0
HasNoFeed bytes = All (λ byte. byte ≢ line_feed) bytes

-- what each of these lines says, if each says a sum
abbrev pub all_said : List (List ℕ) → Option (List SumData)
all_said [] = Some []
all_said (line ∷ more) =
    option_and_then (λ sum. option_map (λ sums. sum ∷ sums) (all_said more)) (line_of line)

-- the sums of lines that are all good: each says one, and no two disagree
abbrev pub agreed : List (List ℕ) → Option (List SumData)
agreed lines =
    option_and_then (λ sums. if all_agree sums then Some sums else None) (all_said lines)

-- the number of the first bad line: so many lines are the fewest from the top that aren't all good
abbrev pub first_bad : List (List ℕ) → ℕ
first_bad lines =
    unwrap_or (find (λ n. is_none (agreed (take n lines))) (range_with_len 1 (length lines))) 0

-- the line of this number is the first bad one: those above it are good, and it says no sum, or one
-- that disagrees with a sum above it
pub record IsFirstBad (lines : List (List ℕ)) (number : ℕ) : Type 0 where
  -- the lines above it, itself, and those below it
  pub above : List (List ℕ)
  pub line : List ℕ
  pub below : List (List ℕ)
  pub placed : lines ≡ above ++ line ∷ below
  pub counted : number ≡ length above + 1
  -- each line above it says a sum, and no two of these disagree
  pub sums : List SumData
  pub said : map line_of above ≡ map Some sums
  pub agreeing : AllPairs Agree sums
  pub bad : (line_of line ≡ None)
      ⊎ ((sum : SumData) × (line_of line ≡ Some sum) × Any (λ earlier. Disagree earlier sum) sums)

-- the sums of a text, in the order of its lines, or its first bad line
abbrev pub sums_of : List ℕ → Result (List SumData) SumFault
sums_of text = let lines = lines_of text in ok_or (agreed lines) (Form (first_bad lines))

-- the digest that a text gives to a name: None if the text is refused, or doesn't list the name
abbrev pub given_in : Result (List SumData) SumFault → List ℕ → Option (List ℕ)
given_in (Ok sums) name = digest_named name sums
given_in (Err fault) name = None

abbrev pub sum_given : List ℕ → List ℕ → Option (List ℕ)
sum_given text name = given_in (sums_of text) name

-- the text is read, and one of its sums gives this digest to this name
pub record IsGiven (text name digest : List ℕ) : Type 0 where
  pub sums : List SumData
  pub read : sums_of text ≡ Ok sums
  pub listed : Contains sums (record { digest = digest; name = name })

-- the text that `sha256sum` writes for these sums, all with this mark
abbrev pub text_of : ℕ → List SumData → List ℕ
text_of mark sums = ended (map (written mark) sums)
