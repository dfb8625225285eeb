use Rattle.std.proofs.Common.{◌≡◌, ℕ, ◌+◌, ◌<◌, List, ◌++◌, length, get_or, map, option_map, take, refl, ap, ◌∙◌, Global, Vec, arith}
use Rattle.std.proofs.lemmas.Grind.{common_steps, flat_map-append}
use Rattle.std.proofs.lemmas.List.{append-nil, map-append, take_all, take_more}
use Rattle.std.specs.List.{flat_map}
use Rattle.program.specs.About.{about_of, data_of, line_of, program_line}
use Rattle.program.specs.Opening.{Place}
use Rattle.program.specs.declared.about.Called.{Called}
use Rattle.program.proofs.about.about.Goals as goal

one_more : (f : Place → List ℕ) (xs : List Called) (i : ℕ) (x : Called) → i < length xs →
    flat_map f (map data_of (take (i + 1) xs)) ≡ flat_map f (map data_of (take i xs)) ++ f (data_of (get_or xs i x))
one_more f xs i x h = rw (take_more xs i x h, map-append, flat_map-append, append-nil) refl

pub loop-called-preserved : goal.loop-called-preserved
loop-called-preserved c = grind (arith, common_steps, one_more)

pub returns : goal.returns
unfolding about_of
returns c =
    let line = line_of (option_map (λ (text : Vec ℕ Global). text.items) c.args.sums.now) in
    let all = take_all c.loop-called.called-index c.args.inputs.now c.loop-called-test.false in
    let lines = c.loop-called.invariant ∙ ap (λ (xs : List Called). flat_map line (map data_of xs)) all in
    record {
      exact = ap (λ (v : Vec ℕ Global). v.items) c.into_bytes.ensures.value
          ∙ (c.in_ok-push_str-2.ensures.bytes ∙ ap (λ (xs : List ℕ). xs ++ program_line) lines);
    }
