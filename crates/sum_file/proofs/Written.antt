-- The line that `sha256sum` writes.
use Rattle.sum_file.proofs.Common.{arith, ◌≡◌, ℕ, ◌==◌, inl, inr, Bool, true, false, not, ◌&&◌, ◌||◌, List, [], ◌∷◌, ◌++◌, get_or, Some, Ok, option_map, subst, refl, sym, ap, ◌∙◌, is_ok, true≢false, list_all, and_from, cases_Bool, cond_both, cond-true, cond-false, eqb-true, or_cases, or_from, or_parts, false_from_ne_true, not_from_false, list_all-append, list_all-from_AllPass, decode_sized, encode_lower, is_hex_digit, IsOk-decode_sized, decode_sized-encode_lower, IsMark, Says, space, written, backslash, carriage_return, escape, escaped, has_special, is_special, line_feed, unescape, unescaped, IsWritable, SumData}
use Rattle.sum_file.proofs.Escapes.{unescaped-pair, unescaped-plain}

-- a byte that no line has within it or at its end
abbrev pub is_ending : ℕ → Bool
is_ending byte = byte == line_feed || byte == carriage_return

-- bytes without such a one
abbrev pub is_clean : List ℕ → Bool
is_clean bytes = list_all (λ byte. not (is_ending byte)) bytes

-- a byte is written with a backslash before it, or as it is
record IsEscape (byte : ℕ) : Type 0 where
  behind : ℕ
  written_so : escape byte ≡ backslash ∷ behind ∷ []
  meant : unescape behind ≡ Some byte
  clean : is_ending behind ≡ false

pair_of : (byte : ℕ) → is_special byte ≡ true → IsEscape byte
pair_of byte special =
    elim (or_cases (byte == backslash || byte == line_feed) (byte == carriage_return) special) [
      | inl one ↦
          elim (or_cases (byte == backslash) (byte == line_feed) one) [
            | inl is ↦ subst IsEscape (sym (eqb-true byte backslash is))
                (record { behind = 92; written_so = refl; meant = refl; clean = refl })
            | inr is ↦ subst IsEscape (sym (eqb-true byte line_feed is))
                (record { behind = 110; written_so = refl; meant = refl; clean = refl })
          ]
      | inr is ↦ subst IsEscape (sym (eqb-true byte carriage_return is))
          (record { behind = 114; written_so = refl; meant = refl; clean = refl })
    ]

plain : (byte : ℕ) → is_special byte ≡ false → escape byte ≡ byte ∷ []
plain byte is = grind (arith, or_parts)

-- an escaped name is read back
pub unescaped-escaped : (name : List ℕ) → unescaped (escaped name) ≡ Some name
unescaped-escaped [] = refl
unescaped-escaped (byte ∷ name) =
    elim (cases_Bool (is_special byte)) [
      | inl special ↦
          let e = pair_of byte special in
          ap (λ b. unescaped (b ++ escaped name)) e.written_so
          ∙ unescaped-pair e.behind byte (escaped name) e.meant
          ∙ ap (option_map (λ n. byte ∷ n)) (unescaped-escaped name)
      | inr is ↦
          let parts = or_parts (byte == backslash || byte == line_feed) (byte == carriage_return) is in
          let first = or_parts (byte == backslash) (byte == line_feed) parts.0 in
          ap (λ b. unescaped (b ++ escaped name)) (plain byte is)
          ∙ unescaped-plain byte (escaped name) first.0
          ∙ ap (option_map (λ n. byte ∷ n)) (unescaped-escaped name)
    ]

-- a name without a special byte stands as it is
pub escaped-plain : (name : List ℕ) → has_special name ≡ false → escaped name ≡ name
escaped-plain [] is = refl
escaped-plain (byte ∷ name) is =
    let parts = or_parts (is_special byte) (has_special name) is in
    ap (λ b. b ++ escaped name) (plain byte parts.0) ∙ ap (λ n. byte ∷ n) (escaped-plain name parts.1)

-- the written line says the sum
pub Says-written : (mark : ℕ) (sum : SumData) → IsMark mark → IsWritable sum → Says (written mark sum) sum
Says-written mark sum marked writable =
    grind (arith, decode_sized-encode_lower, cases_Bool, cond-true, unescaped-escaped, cond-false, escaped-plain)

-- an escaped name is clean
clean_escape : (byte : ℕ) → is_clean (escape byte) ≡ true
clean_escape byte =
    elim (cases_Bool (is_special byte)) [
      | inl special ↦
          let e = pair_of byte special in
          ap is_clean e.written_so ∙ ap (λ b. not b && true) e.clean
      | inr is ↦
          let parts = or_parts (byte == backslash || byte == line_feed) (byte == carriage_return) is in
          let first = or_parts (byte == backslash) (byte == line_feed) parts.0 in
          ap is_clean (plain byte is)
          ∙ ap (λ b. not b && true) (or_from (byte == line_feed) (byte == carriage_return) first.1 parts.1)
    ]

clean_escaped : (name : List ℕ) → is_clean (escaped name) ≡ true
clean_escaped [] = refl
clean_escaped (byte ∷ name) = grind (arith, list_all-append, not, and_from, clean_escape, clean_escaped name)

-- a digit ends no line
digit_is_clean : (byte : ℕ) → is_hex_digit byte ≡ true → not (is_ending byte) ≡ true
digit_is_clean byte digit = grind (arith, not_from_false, false_from_ne_true, or_cases, true≢false, eqb-true)

clean_digits : (digits bytes : List ℕ) → decode_sized digits 32 ≡ Ok bytes → is_clean digits ≡ true
clean_digits digits bytes decoded =
    let are = (IsOk-decode_sized digits 32).0 (ap is_ok decoded) in
    list_all-from_AllPass (λ b. not (is_ending b)) digits
    (λ k d less. digit_is_clean (get_or digits k d) (are.1 k d less))

clean_mark : (mark : ℕ) → IsMark mark → not (is_ending mark) ≡ true
clean_mark mark (inl is) = ap (λ m. not (is_ending m)) is
clean_mark mark (inr is) = ap (λ m. not (is_ending m)) is

-- the written line is clean
pub clean_written : (mark : ℕ) (sum : SumData) → IsMark mark → IsWritable sum → is_clean (written mark sum) ≡ true
clean_written mark sum marked writable =
    let digits = encode_lower sum.digest in
    let rest = space ∷ mark ∷ escaped sum.name in
    let spelled : is_clean (digits ++ rest) ≡ true =
    list_all-append (λ b. not (is_ending b)) digits rest
    ∙ and_from (is_clean digits) (is_clean rest)
    (clean_digits digits sum.digest
    (decode_sized-encode_lower sum.digest 32 writable.digest_long writable.digest_bytes))
    (and_from (not (is_ending mark)) (is_clean (escaped sum.name)) (clean_mark mark marked) (clean_escaped sum.name)) in
    cond_both (has_special sum.name) (backslash ∷ digits ++ rest) (digits ++ rest) (λ l. is_clean l ≡ true)
    (λ special. spelled) (λ is. spelled)
