use Rattle.reading_time.proofs.Common.{ap, arith, length-append, rules, ◌++◌, ◌≡◌, ◌∙◌, ◌∷◌, [], List, ℕ, time_of}
use Rattle.reading_time.proofs.Utc.{time_of-long, time_of-odd}
use Rattle.reading_time.proofs.reading.utc_second.Goals as goal

pub returns-then-whole-ne19 : goal.returns-then-whole-ne19
returns-then-whole-ne19 c =
    let whole = c.args.whole.now in
    time_of-long (whole ++ 90 ∷ []) (λ same. c.if-whole-ne19.true
    (omega (arith, same, length-append whole (90 ∷ []))))

pub returns-in-Ok : goal.returns-in-Ok
returns-in-Ok c =
    let is : c.in-Ok.text.now ≡ c.args.whole.now ++ 90 ∷ [] = search rules in
    c.read_time.ensures ∙ ap (λ (t : List ℕ). time_of t) is

pub returns-in-Err : goal.returns-in-Err
returns-in-Err c = time_of-odd (c.args.whole.now ++ 90 ∷ []) (λ utf8. search rules)
