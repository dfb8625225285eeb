use Rattle.json_text.proofs.Common.{◌≡◌, ◌<◌, [], ◌∷◌, None, Some, refl, sym, ap, ◌∙◌, arith, number, unsigned, string, boolean, null, number_of, next_value}
use Rattle.json.specs.Reads.{token_of}
use Rattle.json_text.proofs.NextTokens.{unsigned_known, other_known, none_known, next_none, next_end_object, next_end_array, next_key, next_bad, next_string, next_boolean, next_null, next_number, next_number-none, next_array, next_object, next_array-deep, next_object-deep}
use Rattle.json_text.proofs.next.open_value.Goals as goal

pub returns-in_err-token-clause-opened : goal.returns-in_err-token-clause-opened
returns-in_err-token-clause-opened c =
    let empty : c.args.reader.now ≡ [] = grind arith in
    let none : next_value c.args.depth c.args.reader.now ≡ None =
    ap (next_value c.args.depth) empty ∙ next_none c.args.depth in
    grind (arith, none)

pub returns-then-depth-eq0-clause-opened : goal.returns-then-depth-eq0-clause-opened
returns-then-depth-eq0-clause-opened c =
    let first : c.args.reader.now ≡ token_of c.in_ok-token.token ∷ c.next.new.self = grind arith in
    ap (next_value c.args.depth) (first ∙ ap (λ k. token_of k ∷ c.next.new.self) c.in-BeginArray.is)
    ∙ next_array-deep c.args.depth c.next.new.self (omega arith)

pub returns-then-depth-eq0-2-clause-opened : goal.returns-then-depth-eq0-2-clause-opened
returns-then-depth-eq0-2-clause-opened c =
    let first : c.args.reader.now ≡ token_of c.in_ok-token.token ∷ c.next.new.self = grind arith in
    ap (next_value c.args.depth) (first ∙ ap (λ k. token_of k ∷ c.next.new.self) c.in-BeginObject.is)
    ∙ next_object-deep c.args.depth c.next.new.self (omega arith)

pub returns-in-Some-Some-clause-opened : goal.returns-in-Some-Some-clause-opened
returns-in-Some-Some-clause-opened c =
    let first : c.args.reader.now ≡ token_of c.in_ok-token.token ∷ c.next.new.self = grind arith in
    let is : number_of c.in-Number.text.now ≡ Some (unsigned c.in-Some-Some.number) =
    unsigned_known _ c.in-Some-Some.number
    (sym c.unsigned_in.ensures ∙ c.in-Some-Some.is ∙ ap Some c.in-Some-Some.field-0-is) in
    ap (next_value c.args.depth) (first ∙ ap (λ k. token_of k ∷ c.next.new.self) c.in-Number.is)
    ∙ next_number c.args.depth c.next.new.self c.in-Number.text.now (unsigned c.in-Some-Some.number) is

pub returns-in-Some-None-clause-opened : goal.returns-in-Some-None-clause-opened
returns-in-Some-None-clause-opened c =
    let first : c.args.reader.now ≡ token_of c.in_ok-token.token ∷ c.next.new.self = grind arith in
    let is = other_known (number_of c.in-Number.text.now)
    (sym c.unsigned_in.ensures ∙ c.in-Some-None.is ∙ ap Some c.in-Some-None.field-0-is) in (
      number is.0,
      is.2,
      ap (next_value c.args.depth) (first ∙ ap (λ k. token_of k ∷ c.next.new.self) c.in-Number.is)
          ∙ next_number c.args.depth c.next.new.self c.in-Number.text.now is.0 is.1,
    )

pub returns-in-None-clause-opened : goal.returns-in-None-clause-opened
returns-in-None-clause-opened c =
    let first : c.args.reader.now ≡ token_of c.in_ok-token.token ∷ c.next.new.self = grind arith in
    let is = none_known (number_of c.in-Number.text.now) (sym c.unsigned_in.ensures ∙ c.in-None.is) in
    ap (next_value c.args.depth) (first ∙ ap (λ k. token_of k ∷ c.next.new.self) c.in-Number.is)
    ∙ next_number-none c.args.depth c.next.new.self c.in-Number.text.now is

pub returns-in-String-clause-opened : goal.returns-in-String-clause-opened
returns-in-String-clause-opened c =
    let first : c.args.reader.now ≡ token_of c.in_ok-token.token ∷ c.next.new.self = grind arith in (
      string c.in-String.field-0.now,
      record { no_number = refl; no_array = refl; no_object = refl },
      ap (next_value c.args.depth) (first ∙ ap (λ k. token_of k ∷ c.next.new.self) c.in-String.is)
          ∙ next_string c.args.depth c.next.new.self _,
    )

pub returns-in-Bool-clause-opened : goal.returns-in-Bool-clause-opened
returns-in-Bool-clause-opened c =
    let first : c.args.reader.now ≡ token_of c.in_ok-token.token ∷ c.next.new.self = grind arith in (
      boolean c.in-Bool.field-0,
      record { no_number = refl; no_array = refl; no_object = refl },
      ap (next_value c.args.depth) (first ∙ ap (λ k. token_of k ∷ c.next.new.self) c.in-Bool.is)
          ∙ next_boolean c.args.depth c.next.new.self _,
    )

pub returns-in-Null-clause-opened : goal.returns-in-Null-clause-opened
returns-in-Null-clause-opened c =
    let first : c.args.reader.now ≡ token_of c.in_ok-token.token ∷ c.next.new.self = grind arith in (
      null,
      record { no_number = refl; no_array = refl; no_object = refl },
      ap (next_value c.args.depth) (first ∙ ap (λ k. token_of k ∷ c.next.new.self) c.in-Null.is)
          ∙ next_null c.args.depth c.next.new.self,
    )

pub returns-else-depth-eq0-clause-opened : goal.returns-else-depth-eq0-clause-opened
returns-else-depth-eq0-clause-opened c =
    let first : c.args.reader.now ≡ token_of c.in_ok-token.token ∷ c.next.new.self = grind arith in
    let some : 0 < c.args.depth = omega arith in (
      some,
      ap (next_value c.args.depth) (first ∙ ap (λ k. token_of k ∷ c.next.new.self) c.in-BeginArray.is)
          ∙ next_array c.args.depth c.next.new.self some,
    )

pub returns-else-depth-eq0-2-clause-opened : goal.returns-else-depth-eq0-2-clause-opened
returns-else-depth-eq0-2-clause-opened c =
    let first : c.args.reader.now ≡ token_of c.in_ok-token.token ∷ c.next.new.self = grind arith in
    let some : 0 < c.args.depth = omega arith in (
      some,
      ap (next_value c.args.depth) (first ∙ ap (λ k. token_of k ∷ c.next.new.self) c.in-BeginObject.is)
          ∙ next_object c.args.depth c.next.new.self some,
    )

pub returns-in-EndObject-clause-opened : goal.returns-in-EndObject-clause-opened
returns-in-EndObject-clause-opened c =
    let first : c.args.reader.now ≡ token_of c.in_ok-token.token ∷ c.next.new.self = grind arith in
    let d = c.args.depth in
    let ts = c.next.new.self in
    rw first (grind (arith, next_end_object d ts, next_end_array d ts, next_key d ts, next_bad d ts))
