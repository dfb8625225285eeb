-- The lines of a text that is made of lines.
use Rattle.sum_file.proofs.Common.{◌≡◌, ℕ, ◌-◌, ◌<◌, ◌==◌, ◌≢◌, ◌⊎◌, get_or, inl, inr, true, false, ◌&&◌, cond, nat_eq, List, [], ◌∷◌, ◌++◌, length, take, drop, map, refl, sym, ap, ◌∙◌, subst, arith, length-append, append_assoc, All, concat, slice_split, eq-eqb, ne_eqb, append-nil, get_or_append_left, map-append, concat-append, All-head, All-tail, drop-append_seam, get_or-append_seam, take-append_seam, carriage_return, line_feed, HasNoFeed, ended, lines_of, without_last}
use Rattle.std.specs.Cmp.Lexicographic.{pointwise}
use Rattle.std.proofs.lemmas.List.Splits.{slice_split_at, slice_split_none}

-- a byte at the end, or another one
without_last-end : (byte last : ℕ) (bytes : List ℕ) → without_last byte (bytes ++ last ∷ [])
    ≡ cond ((byte == last) && true) bytes (bytes ++ last ∷ [])
without_last-end byte last bytes =
    let whole = bytes ++ last ∷ [] in
    let short : length whole - 1 ≡ length bytes = omega (arith, length-append bytes (last ∷ [])) in
    ap (λ n. cond (pointwise nat_eq (byte ∷ []) (drop n whole)) (take n whole) whole) short
    ∙ ap (λ d. cond (pointwise nat_eq (byte ∷ []) d) (take (length bytes) whole) whole)
    (drop-append_seam bytes (last ∷ []))
    ∙ ap (λ t. cond ((byte == last) && true) t whole) (take-append_seam bytes (last ∷ []))

without_last-same : (byte : ℕ) (bytes : List ℕ) → without_last byte (bytes ++ byte ∷ []) ≡ bytes
without_last-same byte bytes = grind (arith, without_last-end, eq-eqb)

pub without_last-other : (byte last : ℕ) (bytes : List ℕ) → last ≢ byte
    → without_last byte (bytes ++ last ∷ []) ≡ bytes ++ last ∷ []
without_last-other byte last bytes other = grind (arith, without_last-end, ne_eqb)

-- a list is empty, or has a last element
pub snoc_view : {A : Type 0} (xs : List A) → (xs ≡ []) ⊎ ((front : List A) × (last : A) × (xs ≡ front ++ last ∷ []))
snoc_view [] = inl refl
snoc_view (x ∷ xs) =
    elim (snoc_view xs) [
      | inl none ↦ inr ([], x, ap (λ l. x ∷ l) none)
      | inr some ↦ inr (x ∷ some.0, some.1, ap (λ l. x ∷ l) some.2)
    ]

-- the lines of a text that has a byte
pub lines_of-some : (text : List ℕ) → (length text == 0) ≡ false → lines_of text
    ≡ map (without_last carriage_return) (slice_split (λ b. b == line_feed) (without_last line_feed text))
lines_of-some [] is = cc
lines_of-some (byte ∷ text) is = refl

-- the parts of lines that are ended, and of what follows the last line feed
parts_ended : (lines : List (List ℕ)) (rest : List ℕ) → All HasNoFeed lines → HasNoFeed rest
    → slice_split (λ b. b == line_feed) (ended lines ++ rest) ≡ lines ++ rest ∷ []
parts_ended [] rest no_feeds no_feed = grind (arith, slice_split_none, ne_eqb, get_or)
parts_ended (line ∷ lines) rest no_feeds no_feed =
    let first : HasNoFeed line = All-head HasNoFeed line lines no_feeds in
    let parts = λ (l : List ℕ). slice_split (λ b. b == line_feed) l in
    ap parts (append_assoc (line ++ line_feed ∷ []) (ended lines) rest
    ∙ append_assoc line (line_feed ∷ []) (ended lines ++ rest))
    ∙ slice_split_at (λ b. b == line_feed) line line_feed (ended lines ++ rest)
    (λ k d less. ne_eqb (get_or line k d) line_feed (first k d less)) refl
    ∙ ap (λ l. line ∷ l) (parts_ended lines rest (All-tail HasNoFeed line lines no_feeds) no_feed)

ended-push : (lines : List (List ℕ)) (last : List ℕ)
    → ended (lines ++ last ∷ []) ≡ (ended lines ++ last) ++ line_feed ∷ []
ended-push lines last =
    let whole = λ (line : List ℕ). line ++ line_feed ∷ [] in
    ap concat (map-append whole lines (last ∷ []))
    ∙ concat-append (map whole lines) (whole last ∷ [])
    ∙ ap (λ l. ended lines ++ l) (append-nil (whole last))
    ∙ sym (append_assoc (ended lines) last (line_feed ∷ []))

has_byte : (front : List ℕ) (last : ℕ) → (length (front ++ last ∷ []) == 0) ≡ false
has_byte front last = grind (arith, ne_eqb, length-append)

-- what holds of each element holds of the front and of the last one
All-front : {A : Type 0} (P : A → Type 0) (front : List A) (last : A) → All P (front ++ last ∷ []) → All P front
All-front P front last all k d less = grind (arith, get_or_append_left, length-append)

All-last : {A : Type 0} (P : A → Type 0) (front : List A) (last : A) → All P (front ++ last ∷ []) → P last
All-last P front last all =
    subst P (get_or-append_seam front last [] last)
    (all (length front) last (omega (arith, length-append front (last ∷ []))))

-- the lines of a text whose last line is ended
pub lines_of_ended : (lines : List (List ℕ)) → All HasNoFeed lines
    → lines_of (ended lines) ≡ map (without_last carriage_return) lines
lines_of_ended lines no_feeds =
    elim (snoc_view lines) [
      | inl none ↦
          ap (λ l. lines_of (ended l)) none ∙ ap (map (without_last carriage_return)) (sym none)
      | inr some ↦
          let front = some.0 in
          let last = some.1 in
          let all : All HasNoFeed (front ++ last ∷ []) = subst (All HasNoFeed) some.2 no_feeds in
          let body = ended front ++ last in
          ap (λ l. lines_of (ended l)) some.2
          ∙ ap lines_of (ended-push front last)
          ∙ lines_of-some (body ++ line_feed ∷ []) (has_byte body line_feed)
          ∙ ap (λ b. map (without_last carriage_return) (slice_split (λ c. c == line_feed) b))
          (without_last-same line_feed body)
          ∙ ap (map (without_last carriage_return))
          (parts_ended front last (All-front HasNoFeed front last all) (All-last HasNoFeed front last all))
          ∙ ap (map (without_last carriage_return)) (sym some.2)
    ]

-- the lines of a text whose last line lacks its line feed
pub lines_of_unended : (lines : List (List ℕ)) (last : List ℕ) → All HasNoFeed lines → HasNoFeed last
    → 0 < length last
    → lines_of (ended lines ++ last) ≡ map (without_last carriage_return) (lines ++ last ∷ [])
lines_of_unended lines last no_feeds no_feed some =
    elim (snoc_view last) [
      | inl none ↦ absurd (omega (arith, ap length none))
      | inr view ↦
          let text : ended lines ++ last ≡ (ended lines ++ view.0) ++ view.1 ∷ [] =
          ap (λ l. ended lines ++ l) view.2 ∙ sym (append_assoc (ended lines) view.0 (view.1 ∷ [])) in
          let other : view.1 ≢ line_feed =
          All-last (λ b. b ≢ line_feed) view.0 view.1 (subst HasNoFeed view.2 no_feed) in
          lines_of-some (ended lines ++ last) (ap (λ t. length t == 0) text ∙ has_byte (ended lines ++ view.0) view.1)
          ∙ ap (λ b. map (without_last carriage_return) (slice_split (λ c. c == line_feed) b))
          (ap (without_last line_feed) text
          ∙ without_last-other line_feed view.1 (ended lines ++ view.0) other ∙ sym text)
          ∙ ap (map (without_last carriage_return)) (parts_ended lines last no_feeds no_feed)
    ]
