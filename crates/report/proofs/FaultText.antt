-- The line that reports a fault is ASCII, and so UTF-8.
use Rattle.report.proofs.Common.{◌≡◌, ℕ, zero, suc, ◌/◌, ◌%◌, ◌<◌, ◌++◌, ◌==◌, Bool, true, false, if◌then◌else◌, subst, List, [], ◌∷◌, codes, refl, arith, IsUtf8, IsAscii, RunFault, fault_text, fault_fields}
use Rattle.std.proofs.lemmas.Bool.Decides.{nat_tests}
use Rattle.std.proofs.lemmas.Bool.{and_parts, ltb-true}
use Rattle.std.proofs.lemmas.Str.{IsAscii-append, IsUtf8-from_ascii}
use Rattle.std.proofs.lemmas.Str.Ascii.{IsAscii-cons, IsAscii-nil}
use Rattle.std.specs.Fmt.{decimal, digits, digits_onto, digit_glyph}
use Rattle.std.specs.List.{list_all}
use Rattle.std.specs.Prelude.{nat_lt}
use Rattle.pcap_reader.specs.declared.fault.CaptureFault.TheVariants as captures
use Rattle.claim_file.specs.declared.fault.ClaimFault.TheVariants as claims
use Rattle.certificate.specs.declared.fault.CertificateFault.TheVariants as certificates
use Rattle.cover_certificate.specs.declared.any.AnyFault.TheVariants.{OfPieces, ByCovers}
use Rattle.cover_certificate.specs.declared.fault.CoverFault.TheVariants as covers
use Rattle.certificate.specs.declared.refutation_fault.RefutationFault.TheVariants as refutations
use Rattle.reading_time.specs.declared.fault.TimesFault.TheVariants as times
use Rattle.report.specs.declared.fault.Input.TheVariants.{Claim}
use Rattle.report.specs.declared.fault.RunFault.TheVariants as faults
use Rattle.report.specs.declared.fault.SumsFault.TheVariants as sums
use Rattle.line_writer.specs.Field.{FieldData, next_text, rest_text, Word, Number, Named, Nothing}
use Rattle.line_writer.specs.declared.field.Style.TheVariants.{Plain}

-- a text of bytes below 128 alone
abbrev are_small : List ℕ → Bool
are_small bytes = list_all (λ byte. nat_lt byte 128) bytes

ascii_literal : (bytes : List ℕ) → are_small bytes ≡ true → IsAscii bytes
ascii_literal [] small = IsAscii-nil
ascii_literal (byte ∷ bytes) small =
    let (first, rest) = and_parts _ _ small in
    IsAscii-cons byte bytes (ltb-true byte 128 first) (ascii_literal bytes rest)

either_ascii : (b : Bool) (xs ys : List ℕ) → IsAscii xs → IsAscii ys → IsAscii (if b then xs else ys)
either_ascii true xs ys p q = p
either_ascii false xs ys p q = q

digits_are_ascii : (k n : ℕ) (after : List ℕ) → IsAscii after → IsAscii (digits_onto k 10 false n after)
digits_are_ascii zero n after ascii = ascii
digits_are_ascii (suc k) n after ascii =
    let small : digit_glyph false (n % 10) < 128 = grind (arith, nat_tests) in
    let here = IsAscii-cons _ after small ascii in
    either_ascii (n / 10 == 0) _ _ here (digits_are_ascii k (n / 10) _ here)

decimal_is_ascii : (n : ℕ) → IsAscii (decimal n)
unfolding digits
decimal_is_ascii n = digits_are_ascii 64 n [] IsAscii-nil

-- a field with words below 128 alone
abbrev is_plain : FieldData → Bool
is_plain (Word word) = are_small word
is_plain (Number n) = true
is_plain (Named name n) = are_small name
is_plain Nothing = true
is_plain _ = false

next_is_ascii : (field : FieldData) → is_plain field ≡ true → IsAscii (next_text Plain field)
next_is_ascii (Word word) plain = ascii_literal (codes " " ++ word) plain
next_is_ascii (Number n) plain = IsAscii-append (codes " ") _ (ascii_literal (codes " ") refl) (decimal_is_ascii n)
next_is_ascii (Named name n) plain =
    IsAscii-append (codes " " ++ (name ++ codes " ")) _
    (IsAscii-append (codes " " ++ name) _ (ascii_literal (codes " " ++ name) plain) (ascii_literal (codes " ") refl))
    (decimal_is_ascii n)
next_is_ascii Nothing plain = IsAscii-nil
next_is_ascii _ plain = absurd (cc)

rest_is_ascii : (fields : List FieldData) → list_all is_plain fields ≡ true → IsAscii (rest_text Plain fields)
rest_is_ascii [] plain = IsAscii-nil
rest_is_ascii (field ∷ fields) plain =
    let (here, rest) = and_parts _ _ plain in
    IsAscii-append (next_text Plain field) _ (next_is_ascii field here) (rest_is_ascii fields rest)

-- each line is a blank less than what would follow another field
faults_are_plain : (fault : RunFault) →
    (list_all is_plain (fault_fields fault) ≡ true)
    × (rest_text Plain (fault_fields fault) ≡ codes " " ++ fault_text fault)
faults_are_plain (faults.Capture captures.Magic) = (refl, refl)
faults_are_plain (faults.Claim claims.Json) = (refl, refl)
faults_are_plain (faults.Certificate (OfPieces certificates.Json)) = (refl, refl)
faults_are_plain (faults.Certificate (ByCovers covers.Json)) = (refl, refl)
faults_are_plain (faults.Refutation refutations.Json) = (refl, refl)
faults_are_plain (faults.Times times.TooMany) = (refl, refl)
faults_are_plain (faults.TooBig Claim) = (refl, refl)
faults_are_plain (faults.Device Claim) = (refl, refl)
faults_are_plain (faults.Sums (sums.Missing Claim)) = (refl, refl)
faults_are_plain (faults.Sums (sums.Differ Claim)) = (refl, refl)
faults_are_plain fault = (refl, refl)

pub fault_is_utf8 : (fault : RunFault) → IsUtf8 (fault_text fault)
fault_is_utf8 fault =
    let (plain, same) = faults_are_plain fault in
    let after_blank = subst IsAscii same (rest_is_ascii (fault_fields fault) plain) in
    IsUtf8-from_ascii _ (λ i. after_blank (suc i))
