use Rattle.std.proofs.Common.{◌≡◌, ◌∙◌, ◌≤◌, ℕ, List, Option, Some, None, Result, refl, ap, arith, codes, subst, sym, true≢false}
use Rattle.std.proofs.lemmas.Option.{IfSome_then}
use Rattle.std.specs.Prelude.{IfNone, IfSome, IsSome, option_map}
use Rattle.std.specs.Str.Parse.{ExplainsUnsignedError, HasUnsignedDigitsIfOk, IsNumeral, ParsesUnsigned, digits_value, without_leading_plus}
use Rattle.std.specs.declared.num.ParseIntError.{ParseIntError}
use Rattle.clap.specs.Words.{ReadsOne, found_of, one_text}
use Rattle.clap.proofs.WalkLemmas.{one_text-rows}
use Rattle.command_line.proofs.command.argument.step_of.Goals as goal

-- the number that a text's digits are
abbrev number : List ℕ → ℕ
number text = digits_value 10 (without_leading_plus text)

-- a text isn't the length of a piece
abbrev IsNoStep : List ℕ → Type 0
IsNoStep text = IsNumeral 10 (without_leading_plus text) → 1 ≤ number text → number text ≤ 86400 → ⊥

-- what is said of a text that is read
abbrev Parsed : List ℕ → Result ℕ ParseIntError → Type 0
Parsed text x = ParsesUnsigned 32 10 text x × ExplainsUnsignedError 10 text x × HasUnsignedDigitsIfOk text x

-- what is read of a text that is given is its number
reads : (given : Option (List ℕ)) (seconds : ℕ) → (given ≡ None → Some seconds ≡ None) →
    ((text : List ℕ) → given ≡ Some text → ReadsOne Parsed text (Some seconds)) →
    option_map number given ≡ Some seconds
reads None seconds none value = let wrong : Some seconds ≡ None = none refl in cc
reads (Some text) seconds none value = ap Some (sym (value text refl).0.1)

-- what can't be read is no step
unread : (given : Option (List ℕ)) → ((text : List ℕ) → given ≡ Some text → ReadsOne Parsed text None) →
    IfSome given IsNoStep
unread None value = tt
unread (Some text) value = λ numeral least most. (value text refl).1.0 (numeral, omega arith)

-- nor is what is read and lies outside
outside : (given : Option (List ℕ)) (seconds : ℕ) → ((1 ≤ seconds) × (seconds ≤ 86400) → ⊥) →
    ((text : List ℕ) → given ≡ Some text → ReadsOne Parsed text (Some seconds)) → IfSome given IsNoStep
outside None seconds wrong value = tt
outside (Some text) seconds wrong value = λ numeral least most.
    wrong (subst (λ (n : ℕ). (1 ≤ n) × (n ≤ 86400)) (sym (value text refl).0.1) (least, most))

if_none : {X Q : Type 0} (r : Option X) → Q → IfNone r Q
if_none None q = q
if_none (Some x) q = tt

none_of : {X P Q : Type 0} (r : Option X) → (P → IsSome r) → ((P → ⊥) → Q) → IfNone r Q
none_of None some then_none = then_none (λ p. true≢false (sym (some p)))
none_of (Some x) some then_none = tt

pub returns-in_err-seconds-clause-none : goal.returns-in_err-seconds-clause-none
returns-in_err-seconds-clause-none c =
    let f = found_of c.args.words.now in
    if_none c.from_residual.result
    (subst (λ (given : Option (List ℕ)). IfSome given IsNoStep) (one_text-rows f (codes "step"))
    (unread (one_text f (codes "step")) c.in_err-seconds.ensures.value))

pub returns-clause-some : goal.returns-clause-some
returns-clause-some c =
    let f = found_of c.args.words.now in
    let seconds = c.in_ok-seconds.seconds in
    let given = subst (λ (given : Option (List ℕ)). option_map number given ≡ Some seconds)
    (one_text-rows f (codes "step"))
    (reads (one_text f (codes "step")) seconds c.in_ok-seconds.ensures.none c.in_ok-seconds.ensures.value) in
    IfSome_then c.new.result c.new.ensures.value (λ step is. given ∙ ap Some (sym is))

pub returns-clause-none : goal.returns-clause-none
returns-clause-none c =
    let f = found_of c.args.words.now in
    none_of c.new.result c.new.ensures.range.1
    (λ wrong. subst (λ (given : Option (List ℕ)). IfSome given IsNoStep) (one_text-rows f (codes "step"))
    (outside (one_text f (codes "step")) c.in_ok-seconds.seconds wrong c.in_ok-seconds.ensures.value))
