-- One turn of the reading of lines, and its end.
use Rattle.sum_file.proofs.Common.{arith, ◌≡◌, ℕ, ◌+◌, ◌<◌, ◌==◌, Ok, Err, ok_or, Bool, true, false, List, [], ◌∷◌, ◌++◌, length, take, drop, map, get_or, Some, None, option_and_then, sym, ap, ◌∙◌, Bor, length-map, map-append, take_more, take-append-drop, list_all-map, list_all, slice_split, Form, Sum, line_of, carriage_return, line_feed, agreed, first_bad, lines_of, sums_of, without_last, SumData, agree, data_of}
use Rattle.std.proofs.lemmas.Simd.{map-map}
use Rattle.sum_file.proofs.Agreement.{agreed-push, with_one}
use Rattle.sum_file.proofs.Cuts.{lines_of-some}
use Rattle.sum_file.proofs.FirstBad.{first_bad_line}

-- the test that a line's sum passes
abbrev pub agrees_with : List Sum → Sum → Bool
agrees_with sums sum = list_all (λ other. agree (data_of other) (data_of sum)) sums

-- a good line is added
pub line_added : (done : List (List ℕ)) (line : List ℕ) (sums : List Sum) (sum : Sum)
    → agreed done ≡ Some (map data_of sums) → Some (data_of sum) ≡ line_of line → agrees_with sums sum ≡ true
    → agreed (done ++ line ∷ []) ≡ Some (map data_of (sums ++ sum ∷ []))
line_added done line sums sum said is passes =
    grind (arith, agreed-push, map, option_and_then, with_one, list_all-map, map-append)

-- a line that says nothing is bad
pub line_without_sum : (done : List (List ℕ)) (line : List ℕ) (sums : List Sum)
    → agreed done ≡ Some (map data_of sums) → None ≡ line_of line → agreed (done ++ line ∷ []) ≡ None
line_without_sum done line sums said is = grind (arith, agreed-push, map, option_and_then, with_one)

-- a line that disagrees with an earlier one is bad
pub line_that_disagrees : (done : List (List ℕ)) (line : List ℕ) (sums : List Sum) (sum : Sum)
    → agreed done ≡ Some (map data_of sums) → Some (data_of sum) ≡ line_of line → agrees_with sums sum ≡ false
    → agreed (done ++ line ∷ []) ≡ None
line_that_disagrees done line sums sum said is fails =
    grind (arith, agreed-push, map, option_and_then, with_one, list_all-map)

-- the lines so far, the next one, and those below it are the lines of the parts
lines_parted : (f : List ℕ → List ℕ) (parts : List (List ℕ))
    (yielded : List (Bor (List ℕ))) (ended : List ℕ)
    → map (λ e. e.now) yielded ≡ take (length yielded) parts → length yielded < length parts
    → ended ≡ get_or parts (length yielded) ended
    → map f parts ≡ (map (λ e. f e.now) yielded ++ f ended ∷ []) ++ map f (drop (length yielded + 1) parts)
lines_parted f parts yielded ended so_far within is =
    let n = length yielded in
    let front : take (n + 1) parts ≡ map (λ e. e.now) yielded ++ ended ∷ [] =
    take_more parts n ended within ∙ ap (λ l. l ++ get_or parts n ended ∷ []) (sym so_far)
    ∙ ap (λ l. map (λ e. e.now) yielded ++ l ∷ []) (sym is) in
    ap (map f) (sym (take-append-drop (n + 1) parts) ∙ ap (λ l. l ++ drop (n + 1) parts) front)
    ∙ map-append f (map (λ e. e.now) yielded ++ ended ∷ []) (drop (n + 1) parts)
    ∙ ap (λ l. l ++ map f (drop (n + 1) parts)) (map-append f (map (λ e. e.now) yielded) (ended ∷ [])
    ∙ ap (λ l. l ++ f ended ∷ []) (map-map f (λ e. e.now) yielded))

-- parts that were yielded, as lines
abbrev pub lines_yielded : List (Bor (List ℕ)) → List (List ℕ)
lines_yielded yielded = map (λ part. without_last carriage_return part.now) yielded

-- a text that has a byte, and the bytes that are cut into parts
pub record IsCut (text body : List ℕ) : Type 0 where
  pub some : (length text == 0) ≡ false
  pub without_feed : body ≡ without_last line_feed text

abbrev pub parts_in : List ℕ → List (List ℕ)
parts_in body = slice_split (λ b. b == line_feed) body

-- all parts were yielded, and their lines are good
pub lines_are_good : (text body : List ℕ) (yielded : List (Bor (List ℕ))) (sums : List SumData)
    → IsCut text body → map (λ part. part.now) yielded ≡ parts_in body
    → agreed (lines_yielded yielded) ≡ Some sums → sums_of text ≡ Ok sums
lines_are_good text body yielded sums cut all said =
    let lines : lines_of text ≡ lines_yielded yielded =
    lines_of-some text cut.some
    ∙ ap (λ b. map (without_last carriage_return) (parts_in b)) (sym cut.without_feed)
    ∙ ap (map (without_last carriage_return)) (sym all)
    ∙ map-map (without_last carriage_return) (λ part. part.now) yielded in
    ap (λ s. ok_or s (Form (first_bad (lines_of text)))) (ap agreed lines ∙ said)

-- the next part, below those that were yielded
pub record IsNextPart (body : List ℕ) (yielded : List (Bor (List ℕ))) (part : List ℕ) : Type 0 where
  pub so_far : map (λ p. p.now) yielded ≡ take (length yielded) (parts_in body)
  pub next : (length yielded < length (parts_in body)) × (part ≡ get_or (parts_in body) (length yielded) part)

-- its line isn't good
pub line_is_bad : (text body : List ℕ) (yielded : List (Bor (List ℕ))) (part : List ℕ) (sums : List Sum)
    → IsCut text body → IsNextPart body yielded part → agreed (lines_yielded yielded) ≡ Some (map data_of sums)
    → agreed (lines_yielded yielded ++ without_last carriage_return part ∷ []) ≡ None
    → sums_of text ≡ Err (Form (length sums + 1))
line_is_bad text body yielded part sums cut at said bad =
    let f = without_last carriage_return in
    let n = length yielded in
    let parts = parts_in body in
    let below = map f (drop (n + 1) parts) in
    let lines : lines_of text ≡ (lines_yielded yielded ++ f part ∷ []) ++ below =
    lines_of-some text cut.some ∙ ap (λ b. map f (parts_in b)) (sym cut.without_feed)
    ∙ lines_parted f parts yielded part at.so_far at.next.0 at.next.1 in
    ap (λ l. ok_or (agreed l) (Form (first_bad l))) lines
    ∙ first_bad_line (lines_yielded yielded) (f part) below (map data_of sums) said bad
    ∙ ap (λ k. Err (Form (k + 1))) (length-map sums data_of)
