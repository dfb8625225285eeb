-- The texts of `refute`, and of `find --refutation` if nothing is found.
use Rattle.std.specs.Prelude.{ℕ, List, codes, Bool, true, false}
use Rattle.audit_text.specs.Common.{Style, Plain}

-- whether a refutation is accepted
abbrev pub refuted_text : Bool → List ℕ
refuted_text true = codes "refuted yes\n"
refuted_text false = codes "refuted no\n"

-- no refutation is found, in words for a program and in others for a person
abbrev pub no_refutation_text : Style → List ℕ
no_refutation_text Plain = codes "nothing refutation\n"
no_refutation_text style = codes "no refutation found\n"
