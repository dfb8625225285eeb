-- Texts of which a terminal obeys no character.
use Rattle.fault_words.proofs.Common.{◌≡◌, ℕ, zero, suc, ◌/◌, ◌%◌, ◌<◌, ◌≤◌, ◌++◌, ◌==◌, ◌&&◌, Bool, true, false, if◌then◌else◌, T, List, [], ◌∷◌, codes, refl, sym, subst, append-nil, arith, encode_utf8, flat_map, NoCharPasses-append, NoCharPasses-nil, encodes-IsAscii, IsQuiet, are_visible, is_obeyed, is_visible, shown_char}
use Rattle.std.proofs.lemmas.Bool.Decides.{nat_tests}
use Rattle.std.proofs.Math.Nat.{mod-lt}
use lib.Ieee.Fits.{and_l, and_r}
use Rattle.std.specs.Fmt.{decimal, digits, digits_onto, digit_glyph}
use Rattle.std.specs.Str.{IsAscii, NonePass}

visible_is_unobeyed : (c : ℕ) → T (is_visible c) → is_obeyed c ≡ false
visible_is_unobeyed c visible = grind (arith, nat_tests)

visible_is_ascii : (cs : List ℕ) → T (are_visible cs) → IsAscii cs
visible_is_ascii [] visible i = omega arith
visible_is_ascii (c ∷ cs) visible zero = let here : T (is_visible c) = and_l _ _ visible in grind (arith, nat_tests)
visible_is_ascii (c ∷ cs) visible (suc i) = visible_is_ascii cs (and_r _ _ visible) i

none_is_obeyed : (cs : List ℕ) → T (are_visible cs) → NonePass is_obeyed cs
none_is_obeyed [] visible = tt
none_is_obeyed (c ∷ cs) visible =
    (visible_is_unobeyed c (and_l _ _ visible), none_is_obeyed cs (and_r _ _ visible))

pub visible_is_quiet : (cs : List ℕ) → T (are_visible cs) → IsQuiet cs
visible_is_quiet cs visible = (cs, encodes-IsAscii cs (visible_is_ascii cs visible), none_is_obeyed cs visible)

pub quiet_append : (xs ys : List ℕ) → IsQuiet xs → IsQuiet ys → IsQuiet (xs ++ ys)
quiet_append xs ys p q = NoCharPasses-append is_obeyed xs ys p q

-- a text that is these words and something behind them
pub said : (text words rest : List ℕ) → text ≡ words ++ rest → T (are_visible words) → IsQuiet rest → IsQuiet text
said text words rest is visible quiet =
    subst IsQuiet (sym is) (quiet_append words rest (visible_is_quiet words visible) quiet)

-- the same with more words behind that
pub said_between : (text words middle after : List ℕ) → text ≡ words ++ (middle ++ after) → T (are_visible words) →
    IsQuiet middle → T (are_visible after) → IsQuiet text
said_between text words middle after is visible quiet visible' =
    said text words (middle ++ after) is visible (quiet_append middle after quiet (visible_is_quiet after visible'))

-- ---- numbers

and_both : (a b : Bool) → T a → T b → T (a && b)
and_both true b x y = y
and_both false b x y = absurd x

glyph_is_visible : (d : ℕ) → d < 16 → T (is_visible (digit_glyph false d))
glyph_is_visible d few = grind (arith, nat_tests)

pub either_visible : (b : Bool) (xs ys : List ℕ) → T (are_visible xs) → T (are_visible ys) →
    T (are_visible (if b then xs else ys))
either_visible true xs ys p q = p
either_visible false xs ys p q = q

module _ (base : ℕ) (least : 0 < base) (most : base ≤ 16) where
  digits_are_visible : (k n : ℕ) (after : List ℕ) → T (are_visible after) →
      T (are_visible (digits_onto k base false n after))
  digits_are_visible zero n after visible = visible
  digits_are_visible (suc k) n after visible =
      let glyph = glyph_is_visible (n % base) (omega (arith, mod-lt n least, most)) in
      let here = and_both _ (are_visible after) glyph visible in
      either_visible (n / base == 0) _ _ here (digits_are_visible k (n / base) _ here)

  digits_are_quiet : (n : ℕ) → IsQuiet (digits base false n)
  unfolding digits
  digits_are_quiet n = visible_is_quiet (digits base false n) (digits_are_visible 64 n [] tt)

pub decimal_is_quiet : (n : ℕ) → IsQuiet (decimal n)
decimal_is_quiet n = digits_are_quiet 10 (omega arith) (omega arith) n

-- ---- what is shown

as_is_quiet : (b : Bool) (c : ℕ) → is_obeyed c ≡ b →
    IsQuiet (if b then codes "\\u{" ++ digits 16 false c ++ codes "}" else encode_utf8 c)
as_is_quiet true c is =
    quiet_append (codes "\\u{") _ (visible_is_quiet (codes "\\u{") tt)
    (quiet_append (digits 16 false c) (codes "}") (digits_are_quiet 16 (omega arith) (omega arith) c)
    (visible_is_quiet (codes "}") tt))
as_is_quiet false c is = (c ∷ [], append-nil (encode_utf8 c), (is, tt))

pub shown_char_is_quiet : (c : ℕ) → IsQuiet (shown_char c)
shown_char_is_quiet c = as_is_quiet (is_obeyed c) c refl

pub shown_is_quiet : (cs : List ℕ) → IsQuiet (flat_map shown_char cs)
shown_is_quiet [] = NoCharPasses-nil is_obeyed
shown_is_quiet (c ∷ cs) =
    quiet_append (shown_char c) (flat_map shown_char cs) (shown_char_is_quiet c) (shown_is_quiet cs)
