use Rattle.cover_certificate.proofs.Common.{◌≡◌, ap, ◌∙◌, subst, sym, string_bytes, IfOk, IsUtf8, covers_of, covers_text}
use Rattle.std.specs.String.{string_vec}
use Rattle.cover_certificate.proofs.CoversText.{covers_of-text, utf8_covers}
use Rattle.cover_certificate.specs.CoverCertificate.{data_of}
use Rattle.cover_certificate.proofs.writing.write_covers.Goals as goal

pub unwrap-requires : goal.unwrap-requires
unwrap-requires c =
    let utf8 = utf8_covers (data_of c.args.certificate.now) c.in_ok-bytes.ensures.held in
    c.from_utf8.ensures.succeeds (subst IsUtf8 (sym c.in_ok-bytes.ensures.text) utf8)

written : (c : goal.After-unwrap) → string_bytes c.unwrap.result ≡ covers_text (data_of c.args.certificate.now)
written c =
    ap (λ v. v.items)
    (subst (λ r. IfOk r (λ t. string_vec t ≡ c.in_ok-bytes.bytes)) c.unwrap.ensures c.from_utf8.ensures.ok)
    ∙ c.in_ok-bytes.ensures.text

pub returns-clause-text : goal.returns-clause-text
returns-clause-text c = written c

pub returns-clause-reads_back : goal.returns-clause-reads_back
returns-clause-reads_back c = λ few.
    let shown = data_of c.args.certificate.now in
    ap covers_of (written c)
    ∙ covers_of-text shown c.in_ok-bytes.ensures.held few
