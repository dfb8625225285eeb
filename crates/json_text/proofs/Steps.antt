-- What a reading by steps went by, if it gave a value.
use Rattle.json_text.proofs.Common.{◌≡◌, Bool, true, false, Option, Some, None, refl}
use Rattle.std.specs.Prelude.{Result, Ok, Err}
use Rattle.json_text.specs.Step.{after, asked, given}

pub given_by : {A B E : Type 0} (fault : E) (o : Option A) (rest : A → Result B E) {b : B} → given fault o rest ≡ Ok b →
    (a : A) × (o ≡ Some a) × (rest a ≡ Ok b)
given_by fault None rest is = cc
given_by fault (Some a) rest is = (a, refl, is)

pub after_by : {A B E : Type 0} (r : Result A E) (rest : A → Result B E) {b : B} → after r rest ≡ Ok b →
    (a : A) × (r ≡ Ok a) × (rest a ≡ Ok b)
after_by (Err fault) rest is = cc
after_by (Ok a) rest is = (a, refl, is)

pub asked_by : {B E : Type 0} (fault : E) (holds : Bool) (rest : Result B E) {b : B} → asked fault holds rest ≡ Ok b →
    (holds ≡ true) × (rest ≡ Ok b)
asked_by fault false rest is = cc
asked_by fault true rest is = (refl, is)
