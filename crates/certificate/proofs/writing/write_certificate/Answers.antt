use Rattle.certificate.proofs.Common.{◌≡◌, ap, ◌∙◌, subst, sym, string_bytes, length-map, IfOk, IsUtf8, data_of, piece_data, certificate_of, certificate_text}
use Rattle.std.specs.String.{string_vec}
use Rattle.certificate.proofs.TextRead.{utf8_certificate}
use Rattle.certificate.proofs.CompactRead.{certificate_of-text}
use Rattle.certificate.proofs.writing.write_certificate.Goals as goal

pub unwrap-requires : goal.unwrap-requires
unwrap-requires c =
    let utf8 = utf8_certificate (data_of c.args.certificate.now) c.in_ok-bytes.ensures.held in
    c.from_utf8.ensures.succeeds (subst IsUtf8 (sym c.in_ok-bytes.ensures.text) utf8)

written : (c : goal.After-unwrap) → string_bytes c.unwrap.result ≡ certificate_text (data_of c.args.certificate.now)
written c =
    ap (λ v. v.items)
    (subst (λ r. IfOk r (λ t. string_vec t ≡ c.in_ok-bytes.bytes)) c.unwrap.ensures c.from_utf8.ensures.ok)
    ∙ c.in_ok-bytes.ensures.text

pub returns-clause-text : goal.returns-clause-text
returns-clause-text c = written c

pub returns-clause-reads_back : goal.returns-clause-reads_back
returns-clause-reads_back c = λ few.
    let shown = data_of c.args.certificate.now in
    ap certificate_of (written c)
    ∙ certificate_of-text shown (rw (length-map c.args.certificate.now.pieces.items piece_data) few)
    c.in_ok-bytes.ensures.held
