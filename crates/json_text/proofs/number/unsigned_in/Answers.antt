use Rattle.json_text.proofs.Common.{◌≡◌, ◌<◌, ◌^◌, Some, option_map, sym, ap, ◌∙◌, arith, digits_value, unsigned, as_u64, number_of}
use Rattle.json_text.proofs.Digits.{number_of-digits}
use Rattle.json_text.proofs.number.unsigned_in.Goals as goal

pub returns-in-Some : goal.returns-in-Some
returns-in-Some c =
    let bytes = c.as_bytes-bytes.result.now in
    let value : c.in-Some.number ≡ digits_value 10 bytes = c.in-Some.ensures.value in
    let fits : digits_value 10 bytes < 2 ^ 64 = omega arith in
    let read : number_of bytes ≡ Some (unsigned (digits_value 10 bytes)) =
    number_of-digits bytes c.in-Some.ensures.numeral fits in
    sym (ap (option_map as_u64) (sym (ap number_of c.as_bytes-bytes.ensures.value) ∙ read)
    ∙ ap (λ n. Some (Some n)) (sym value))

pub returns-in-None : goal.returns-in-None
returns-in-None c = c.other_in.ensures ∙ ap (λ s. option_map as_u64 (number_of s)) c.as_bytes-bytes.ensures.value
