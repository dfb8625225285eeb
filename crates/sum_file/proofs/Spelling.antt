-- A line and its parts.
use Rattle.sum_file.proofs.Common.{◌≡◌, ℕ, ◌+◌, ◌<◌, ◌==◌, inl, inr, ltb, Bool, true, false, cond, ◌&&◌, ◌||◌, List, [], ◌∷◌, ◌++◌, length, take, drop, get_or, Option, Some, None, option_map, option_and_then, Result, Ok, Err, refl, sym, ap, ◌∙◌, subst, arith, length-append, drop-cons, length-drop, is_ok, true≢false, slice_index, and_from, and_parts, or_cases, or_left, or_right, cases_Bool, cond-true, cond-false, eq-eqb, eqb-true, ne_eqb, lt-ltb, ltb-true, get_or-append-add, get_or_append_left, take-append-drop, take-append_seam, drop-append-add, get_or-append_seam, decode_sized, is_hex_digit, IsOk-decode_sized, IsMark, Says, asterisk, is_escaped, line_of, name_of, parts_of, space, sum_with, without_backslash, backslash, followed, unescape, unescaped, SumData}
use Rattle.std.specs.Result.{result_ok}
use Rattle.hex.specs.declared.error.FromHexError.{FromHexError}

-- the test for the bytes between the digits and the name
abbrev is_parted : List ℕ → Bool
is_parted line =
    let mark = slice_index line 65 in
    ltb 66 (length line) && slice_index line 64 == space && (mark == space || mark == asterisk)

is_marked : (mark : ℕ) → IsMark mark → (mark == space || mark == asterisk) ≡ true
is_marked mark (inl is) = or_left (mark == space) (mark == asterisk) (eq-eqb mark space is)
is_marked mark (inr is) = or_right (mark == space) (mark == asterisk) (eq-eqb mark asterisk is)

marked_by : (mark : ℕ) → (mark == space || mark == asterisk) ≡ true → IsMark mark
marked_by mark is = grind (arith, or_cases, eqb-true)

-- the parts of a line that is spelled of them
pub parts_of-spelled : (digits : List ℕ) (mark : ℕ) (shown : List ℕ) → length digits ≡ 64 → IsMark mark
    → 0 < length shown → parts_of (digits ++ space ∷ mark ∷ shown) ≡ Some (digits, shown)
parts_of-spelled digits mark shown long marked some =
    let rest = space ∷ mark ∷ shown in
    let line = digits ++ rest in
    let size : 66 < length line = omega (arith, length-append digits rest) in
    let space_is : slice_index line 64 ≡ space =
    ap (λ n. get_or line n 0) (sym long) ∙ get_or-append_seam digits space (mark ∷ shown) 0 in
    let mark_is : slice_index line 65 ≡ mark =
    ap (λ n. get_or line (n + 1) 0) (sym long) ∙ get_or-append-add digits rest 1 0 in
    let parted : is_parted line ≡ true =
    and_from (ltb 66 (length line) && slice_index line 64 == space)
    (slice_index line 65 == space || slice_index line 65 == asterisk)
    (and_from (ltb 66 (length line)) (slice_index line 64 == space) (lt-ltb 66 (length line) size)
    (eq-eqb (slice_index line 64) space space_is))
    (ap (λ m. m == space || m == asterisk) mark_is ∙ is_marked mark marked) in
    let front : take 64 line ≡ digits = ap (λ n. take n line) (sym long) ∙ take-append_seam digits rest in
    let back : drop 66 line ≡ shown = ap (λ n. drop (n + 2) line) (sym long) ∙ drop-append-add digits rest 2 in
    cond-true (is_parted line) (Some (take 64 line, drop 66 line)) None parted
    ∙ ap (λ d. Some (d, drop 66 line)) front ∙ ap (λ s. Some (digits, s)) back

-- a line that has parts
record HasParts (line : List ℕ) (parts : List ℕ × List ℕ) : Type 0 where
  marked : IsMark (slice_index line 65)
  spelled : line ≡ parts.0 ++ space ∷ slice_index line 65 ∷ parts.1
  named : 0 < length parts.1

-- a line and what stands at and behind two places
cut_at : (line : List ℕ) (n : ℕ) → n + 1 < length line
    → line ≡ take n line ++ get_or line n 0 ∷ get_or line (n + 1) 0 ∷ drop (n + 2) line
cut_at line n within = grind (arith, get_or, drop-cons, take-append-drop)

parted : (line : List ℕ) (parts : List ℕ × List ℕ) → parts_of line ≡ Some parts → HasParts line parts
parted line parts is =
    elim (cases_Bool (is_parted line)) [
      | inl passes ↦
          let both = and_parts (ltb 66 (length line) && slice_index line 64 == space)
          (slice_index line 65 == space || slice_index line 65 == asterisk) passes in
          let first = and_parts (ltb 66 (length line)) (slice_index line 64 == space) both.0 in
          let long = ltb-true 66 (length line) first.0 in
          let pair = let e : Some (take 64 line, drop 66 line) ≡ Some parts =
          sym (cond-true (is_parted line) (Some (take 64 line, drop 66 line)) None passes) ∙ is in
          let p : (take 64 line, drop 66 line) ≡ parts = cc in p in
          let whole : HasParts line (take 64 line, drop 66 line) = record {
            marked = marked_by (slice_index line 65) both.1;
            spelled = cut_at line 64 (omega arith)
                ∙ ap (λ b. take 64 line ++ b ∷ slice_index line 65 ∷ drop 66 line)
                (eqb-true (slice_index line 64) space first.1);
            named = omega (arith, length-drop 66 line);
          } in
          subst (λ p. HasParts line p) pair whole
      | inr fails ↦ cc (sym (cond-false (is_parted line) (Some (take 64 line, drop 66 line)) None fails) ∙ is)
    ]

-- the sum of parts
pub sum_with-is : (escaped : Bool) (digits shown digest name : List ℕ) → decode_sized digits 32 ≡ Ok digest
    → name_of escaped shown ≡ Some name
    → sum_with escaped (digits, shown) ≡ Some (record { digest = digest; name = name })
sum_with-is escaped digits shown digest name decoded named = grind (arith, option_and_then, named)

sum_from : (r : Result (List ℕ) FromHexError) (o : Option (List ℕ)) (sum : SumData)
    → option_and_then (λ d. option_map (λ n. record { digest = d; name = n }) o) (result_ok r) ≡ Some sum
    → (r ≡ Ok sum.digest) × (o ≡ Some sum.name)
sum_from (Err e) o sum is = cc
sum_from (Ok d) None sum is = cc
sum_from (Ok d) (Some n) sum is = grind arith

-- digits that decode don't begin with a backslash
first_digit : (digits rest bytes : List ℕ) → decode_sized digits 32 ≡ Ok bytes → is_escaped (digits ++ rest) ≡ false
first_digit digits rest bytes decoded =
    let are = (IsOk-decode_sized digits 32).0 (ap is_ok decoded) in
    let first : get_or (digits ++ rest) 0 0 ≡ get_or digits 0 0 = get_or_append_left digits rest 0 0 (omega arith) in
    let digit : is_hex_digit (get_or digits 0 0) ≡ true = are.1 0 0 (omega arith) in
    ne_eqb (get_or (digits ++ rest) 0 0) backslash λ is.
    true≢false (sym digit ∙ ap is_hex_digit (sym first ∙ is))

-- nothing shown is no name
unescaped-some : (shown name : List ℕ) → unescaped shown ≡ Some name → 0 < length name → 0 < length shown
unescaped-some [] name is some = let e : [] ≡ name = cc in subst (λ n. 0 < length n) (sym e) some
unescaped-some (byte ∷ shown) name is some = omega arith

-- a line that is spelled so says the sum
pub line_of-Says : (line : List ℕ) (sum : SumData) → Says line sum → line_of line ≡ Some sum
line_of-Says line sum says =
    let rest = space ∷ says.mark ∷ says.shown in
    let spelled = says.digits ++ rest in
    let long : length says.digits ≡ 64 = ((IsOk-decode_sized says.digits 32).0 (ap is_ok says.digest_of_digits)).0 in
    elim says.spelled [
      | inl plain ↦
          let some : 0 < length says.shown = omega (arith, ap length plain.1, says.named) in
          let first = first_digit says.digits rest sum.digest says.digest_of_digits in
          ap line_of plain.0
          ∙ ap (λ e. option_and_then (sum_with e) (parts_of (cond e (drop 1 spelled) spelled))) first
          ∙ ap (option_and_then (sum_with false))
          (parts_of-spelled says.digits says.mark says.shown long says.marked some)
          ∙ sum_with-is false says.digits says.shown sum.digest sum.name says.digest_of_digits (ap Some plain.1)
      | inr escaped ↦
          let some = unescaped-some says.shown sum.name escaped.1 says.named in
          ap line_of escaped.0
          ∙ ap (option_and_then (sum_with true))
          (parts_of-spelled says.digits says.mark says.shown long says.marked some)
          ∙ sum_with-is true says.digits says.shown sum.digest sum.name says.digest_of_digits escaped.1
    ]

-- something shown is some name
followed-some : (byte : Option ℕ) (rest : Option (List ℕ)) (name : List ℕ)
    → followed byte rest ≡ Some name → 0 < length name
followed-some None rest name is = cc
followed-some (Some byte) None name is = cc
followed-some (Some byte) (Some rest) name is = grind arith

one_byte : (b : Bool) (byte : ℕ) (name : List ℕ) → cond b None (Some (byte ∷ [])) ≡ Some name → 0 < length name
one_byte true byte name is = cc
one_byte false byte name is = grind arith

one_followed : (b : Bool) (first second : Option ℕ) (rest next : Option (List ℕ)) (name : List ℕ)
    → cond b (followed first rest) (followed second next) ≡ Some name → 0 < length name
one_followed true first second rest next name is = followed-some first rest name is
one_followed false first second rest next name is = followed-some second next name is

name_of-some : (escaped : Bool) (shown name : List ℕ) → name_of escaped shown ≡ Some name
    → 0 < length shown → 0 < length name
name_of-some false shown name is some = let e : shown ≡ name = cc in subst (λ n. 0 < length n) e some
name_of-some true [] name is some = absurd (omega arith)
name_of-some true (byte ∷ []) name is some = one_byte (byte == backslash) byte name is
name_of-some true (byte ∷ next ∷ shown) name is some =
    one_followed (byte == backslash) (unescape next) (Some byte) (unescaped shown) (unescaped (next ∷ shown)) name is

-- the parts of a line that says a sum, and that sum
parts_from : (o : Option (List ℕ × List ℕ)) (escaped : Bool) (sum : SumData)
    → option_and_then (sum_with escaped) o ≡ Some sum
    → (p : List ℕ × List ℕ) × (o ≡ Some p) × (sum_with escaped p ≡ Some sum)
parts_from None escaped sum is = cc
parts_from (Some p) escaped sum is = (p, refl, is)

-- a line with a backslash before it
with_backslash : (line : List ℕ) → is_escaped line ≡ true → line ≡ backslash ∷ drop 1 line
with_backslash [] is = cc
with_backslash (byte ∷ line) is = ap (λ b. b ∷ line) (eqb-true byte backslash is)

-- a line that says a sum is spelled so
pub Says-from_line_of : (line : List ℕ) (sum : SumData) → line_of line ≡ Some sum → Says line sum
Says-from_line_of line sum is =
    let from = parts_from (parts_of (without_backslash line)) (is_escaped line) sum is in
    let p = from.0 in
    let has = parted (without_backslash line) p from.1 in
    let read = sum_from (decode_sized p.0 32) (name_of (is_escaped line) p.1) sum from.2 in
    let mark = slice_index (without_backslash line) 65 in
    record {
      digits = p.0;
      mark = mark;
      shown = p.1;
      digest_of_digits = read.0;
      marked = has.marked;
      named = name_of-some (is_escaped line) p.1 sum.name read.1 has.named;
      spelled = elim (cases_Bool (is_escaped line)) [
        | inl escaped ↦
            let line_is : without_backslash line ≡ drop 1 line =
            cond-true (is_escaped line) (drop 1 line) line escaped in
            inr (
              with_backslash line escaped ∙ ap (λ l. backslash ∷ l) (sym line_is ∙ has.spelled),
              ap (λ e. name_of e p.1) (sym escaped) ∙ read.1,
            )
        | inr plain ↦
            let line_is : without_backslash line ≡ line = cond-false (is_escaped line) (drop 1 line) line plain in
            let name_is : Some p.1 ≡ Some sum.name = ap (λ e. name_of e p.1) (sym plain) ∙ read.1 in
            inl (sym line_is ∙ has.spelled, cc)
      ];
    }
