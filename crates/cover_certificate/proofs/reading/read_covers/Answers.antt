use Rattle.std.proofs.Common.{IfOk}
use Rattle.cover_certificate.proofs.Common.{◌≡◌, ℕ, List, Bool, true, false, None, Result, Ok, Err, if◌then◌else◌, inr, refl, sym, ap, ◌∙◌, subst, IsFew, is_utf8-from_IsUtf8, IsUtf8-from_is_utf8, is_utf8, given, read, CoverFault, Json, Answers, covers_from, covers_of}
use Rattle.cover_certificate.specs.CoverCertificate.{data_of}
use Rattle.cover_certificate.specs.declared.cover_certificate.CoverCertificate.{CoverCertificate}
use Rattle.std.specs.Prelude.{IsUtf8}
use Rattle.cover_certificate.proofs.CoversLimits.{covers_of-few}
use Rattle.cover_certificate.proofs.reading.read_covers.Goals as goal

of_text : (bytes text : List ℕ) → text ≡ bytes → IsUtf8 bytes →
    given Json (read text) covers_from ≡ covers_of bytes
of_text bytes text same valid =
    ap (λ t. given Json (read t) covers_from) same
    ∙ sym (ap (λ b. given Json (if b then read bytes else None) covers_from) (is_utf8-from_IsUtf8 bytes valid))

no_text : (bytes : List ℕ) (b : Bool) → is_utf8 bytes ≡ b → (IsUtf8 bytes → ⊥) → covers_of bytes ≡ Err Json
no_text bytes true is invalid = absurd (invalid (IsUtf8-from_is_utf8 bytes is))
no_text bytes false is invalid = ap (λ b. given Json (if b then read bytes else None) covers_from) is

few_of : (bytes : List ℕ) (answer : Result CoverCertificate CoverFault) →
    Answers answer data_of (covers_of bytes) → IfOk answer (λ certificate. IsFew (data_of certificate))
few_of bytes (Ok certificate) is = covers_of-few bytes (data_of certificate) is
few_of bytes (Err fault) is = tt

exact : (bytes text : List ℕ) (answer : Result CoverCertificate CoverFault) → (text ≡ bytes) × IsUtf8 bytes →
    Answers answer data_of (given Json (read text) covers_from) → Answers answer data_of (covers_of bytes)
exact bytes text answer (same, valid) is = subst (λ d. Answers answer data_of d) (of_text bytes text same valid) is

pub returns-in-Ok-clause-exact : goal.returns-in-Ok-clause-exact
returns-in-Ok-clause-exact c =
    exact c.args.bytes.now c.in-Ok.text.now c.read_text.result c.in-Ok.ensures.cases c.read_text.ensures

pub returns-in-Ok-clause-few : goal.returns-in-Ok-clause-few
returns-in-Ok-clause-few c =
    few_of c.args.bytes.now c.read_text.result
    (exact c.args.bytes.now c.in-Ok.text.now c.read_text.result c.in-Ok.ensures.cases c.read_text.ensures)

pub returns-in-Err-clause-exact : goal.returns-in-Err-clause-exact
returns-in-Err-clause-exact c = inr (no_text c.args.bytes.now (is_utf8 c.args.bytes.now) refl c.in-Err.ensures.cases.0)
