use Rattle.cover_certificate.proofs.Common.{◌≡◌, [], ◌∷◌, List, true, false, Option, Some, None, Result, Ok, Err, inl, inr, is_some, sym, ap, ◌∙◌, arith, mapped_some, mapped_none, whole_read, whole_and_more, whole_refused, next_value, given, Data, read, max_depth, CoverFault, Json, Answers, judged, covers_from}
use Rattle.cover_certificate.specs.CoverCertificate.{data_of}
use Rattle.cover_certificate.specs.declared.cover_certificate.CoverCertificate.{CoverCertificate}
use Rattle.json.specs.Reads.{Yields}
use Rattle.json.specs.Token as spec
use Rattle.json.specs.declared.token.Token.{Token}
use Rattle.cover_certificate.proofs.reading.read_text.Goals as goal

token_left : (next : Option Token) (old new : List spec.Token) → Yields old next new → is_some next ≡ true →
    (t : spec.Token) × (old ≡ t ∷ new)
token_left None old new yields some = absurd (cc)
token_left (Some t) old new yields some = (_, yields)

nothing_left : (next : Option Token) (old new : List spec.Token) → Yields old next new → is_some next ≡ false → old ≡ []
nothing_left None old new yields none = yields.0
nothing_left (Some t) old new yields none = absurd (cc)

answered : (answer : Result CoverCertificate CoverFault) (found : Option Data) (value : Data) → found ≡ Some value →
    covers_from value ≡ judged data_of answer → Answers answer data_of (given Json found covers_from)
answered (Ok certificate) found value is same = ap (λ o. given Json o covers_from) is ∙ same
answered (Err fault) found value is same = inr (ap (λ o. given Json o covers_from) is ∙ same)

pub returns-in_err-read : goal.returns-in_err-read
returns-in_err-read c =
    let text = c.args.text.now in
    elim c.in_err-read.ensures [
      | inl memory ↦ grind (arith, memory)
      | inr none ↦
          let nothing = whole_refused text
          (ap (next_value max_depth) (sym c.in_ok-reader.ensures.ok)
          ∙ mapped_none covers_from (next_value max_depth c.in_ok-reader.reader) none.1) in
          let is : given Json (read text) covers_from ≡ Err Json =
          ap (λ o. given Json o covers_from) nothing in
          grind (arith, none.0, is)
    ]

pub returns-then-is_some : goal.returns-then-is_some
returns-then-is_some c =
    let text = c.args.text.now in
    let (v, same, next) = mapped_some covers_from (next_value max_depth c.in_ok-reader.reader)
    (judged data_of c.in_ok-read.read) c.read_value.new.reader c.in_ok-read.ensures in
    let (t, more) = token_left c.next.result c.read_value.new.reader c.next.new.self c.next.ensures.value
    (sym c.is_some.ensures ∙ c.if-is_some.true) in
    inr (ap (λ o. given Json o covers_from)
    (whole_and_more text v t c.next.new.self
    (ap (next_value max_depth) (sym c.in_ok-reader.ensures.ok) ∙ next ∙ ap (λ r. Some (v, r)) more)))

pub returns : goal.returns
returns c =
    let text = c.args.text.now in
    let (v, same, next) = mapped_some covers_from (next_value max_depth c.in_ok-reader.reader)
    (judged data_of c.in_ok-read.read) c.read_value.new.reader c.in_ok-read.ensures in
    let over = nothing_left c.next.result c.read_value.new.reader c.next.new.self c.next.ensures.value
    (sym c.is_some.ensures ∙ c.if-is_some.false) in
    answered c.in_ok-read.read (read text) v
    (whole_read text v (ap (next_value max_depth) (sym c.in_ok-reader.ensures.ok) ∙ next ∙ ap (λ r. Some (v, r)) over))
    same
