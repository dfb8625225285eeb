-- A line feed after the tokens of a JSON text changes none of them.
use Rattle.certificate.proofs.Common.{◌≡◌, ℕ, Bool, true, false, cond, ◌&&◌, List, [], ◌∷◌, ◌++◌, refl, sym, ap, ap₂, ◌∙◌, subst, append-nil, append_assoc, Data, IsPlain, compact_text, print-outline, printable, Token, begin_object, end_object, begin_array, end_array, key, string, boolean, null, bad, Lexeme, token, colon, string_token, lex, between, fresh, punctuate, tokens, escape, quoted, token_text, begins, ends, separator, print_from, IsPrintable, ArePrintable}
use Rattle.json.specs.Token.{number}
use Rattle.json.specs.Word.{ends_word, word}
use Rattle.json.specs.Lex.{comma}
use Rattle.json.proofs.Printed.Strings.{content-escape, lex-escape}
use Rattle.json.proofs.Printed.Numbers.{lex-number, in_word-ended}

abbrev pub line_feed : List ℕ
line_feed = 10 ∷ []

-- what a token is to the lexer
abbrev token_lexemes : Token → List Lexeme
token_lexemes begin_object = token begin_object ∷ []
token_lexemes end_object = token end_object ∷ []
token_lexemes begin_array = token begin_array ∷ []
token_lexemes end_array = token end_array ∷ []
token_lexemes (key s) = token (string s) ∷ colon ∷ []
token_lexemes (string s) = token (string s) ∷ []
token_lexemes (number s) = token (number s) ∷ []
token_lexemes (boolean b) = token (boolean b) ∷ []
token_lexemes null = token null ∷ []
token_lexemes bad = []

lex_quoted : (s rest : List ℕ) → lex between (quoted s ++ rest) ≡ token (string s) ∷ lex between rest
unfolding lex
lex_quoted s rest =
    ap (λ l. lex between (34 ∷ l)) (append_assoc (escape s) (34 ∷ []) rest)
    ∙ ap₂ (λ o l. token (string_token o) ∷ l) (content-escape s rest) (lex-escape s rest)

lex_token : (t : Token) (rest : List ℕ) → IsPrintable t → (ends t ≡ true → ends_word rest ≡ true) →
    lex between (token_text t ++ rest) ≡ token_lexemes t ++ lex between rest
unfolding lex word
lex_token begin_object rest h ended = refl
lex_token end_object rest h ended = refl
lex_token begin_array rest h ended = refl
lex_token end_array rest h ended = refl
lex_token (key s) rest h ended = ap (lex between) (append_assoc (quoted s) (58 ∷ []) rest) ∙ lex_quoted s (58 ∷ rest)
lex_token (string s) rest h ended = lex_quoted s rest
lex_token (number s) rest h ended = lex-number s rest h (ended refl)
lex_token (boolean true) rest h ended =
    ap₂ (λ b l. token (cond b (boolean true) bad) ∷ l) (ended refl) (in_word-ended rest (ended refl))
lex_token (boolean false) rest h ended =
    ap₂ (λ b l. token (cond b (boolean false) bad) ∷ l) (ended refl) (in_word-ended rest (ended refl))
lex_token null rest h ended = ap₂ (λ b l. token (cond b null bad) ∷ l) (ended refl) (in_word-ended rest (ended refl))
lex_token bad rest h ended = absurd h

lex_separator : (b : Bool) (rest : List ℕ) →
    lex between (cond b (44 ∷ []) [] ++ rest) ≡ cond b (comma ∷ []) [] ++ lex between rest
unfolding lex
lex_separator true rest = refl
lex_separator false rest = refl

-- a word ends where a value does
value_ends : (ts : List Token) (rest : List ℕ) → ends_word rest ≡ true → ends_word (print_from true ts ++ rest) ≡ true
unfolding print_from
value_ends [] rest ended = ended
value_ends (begin_object ∷ ts) rest ended = refl
value_ends (end_object ∷ ts) rest ended = refl
value_ends (begin_array ∷ ts) rest ended = refl
value_ends (end_array ∷ ts) rest ended = refl
value_ends (key s ∷ ts) rest ended = refl
value_ends (string s ∷ ts) rest ended = refl
value_ends (number s ∷ ts) rest ended = refl
value_ends (boolean b ∷ ts) rest ended = refl
value_ends (null ∷ ts) rest ended = refl
value_ends (bad ∷ ts) rest ended = refl

lex_line_feed : (c : Bool) (ts : List Token) → ArePrintable ts →
    lex between (print_from c ts ++ line_feed) ≡ lex between (print_from c ts)
unfolding lex print_from ArePrintable
lex_line_feed c [] h = refl
lex_line_feed c (t ∷ ts) h =
    let some = c && begins t in
    let rest = print_from (ends t) ts in
    let before = cond some (comma ∷ []) [] in
    ap (lex between) (append_assoc (separator c t) (token_text t ++ rest) line_feed
    ∙ ap (λ l. separator c t ++ l) (append_assoc (token_text t) rest line_feed))
    ∙ lex_separator some (token_text t ++ (rest ++ line_feed))
    ∙ ap (λ l. before ++ l)
    (lex_token t (rest ++ line_feed) h.0
    (λ e. ap (λ b. ends_word (print_from b ts ++ line_feed)) e ∙ value_ends ts line_feed refl)
    ∙ ap (λ l. token_lexemes t ++ l) (lex_line_feed (ends t) ts h.1)
    ∙ sym (lex_token t rest h.0 (λ e. ap (λ b. ends_word (print_from b ts))
    e ∙ rw append-nil at (value_ends ts [] refl))))
    ∙ sym (lex_separator some (token_text t ++ rest))

pub tokens-line_feed : (value : Data) → IsPlain value →
    tokens (compact_text value ++ line_feed) ≡ tokens (compact_text value)
tokens-line_feed value plain =
    subst (λ text. tokens (text ++ line_feed) ≡ tokens text) (print-outline value)
    (ap (punctuate fresh) (lex_line_feed false _ (printable value plain)))
