use Rattle.cover_certificate.proofs.Common.{◌≡◌, ◌++◌, ◌∙◌, ap, map, append_assoc, join_with_byte, comma, entry_text}
use Rattle.cover_certificate.proofs.pieces_writing.push_piece.Goals as goal

pub returns-clause-text : goal.returns-clause-text
returns-clause-text c =
    let opened = c.in_ok-extend_from_slice.ensures.items in
    let entries : c.push_entries.new.text.items
    ≡ c.extend_from_slice.new.self.items
    ++ join_with_byte comma (map entry_text c.args.piece.now.entries.items) =
    c.in_ok-push_entries.ensures.text
    ∙ ap (λ l. c.extend_from_slice.new.self.items ++ join_with_byte comma (map entry_text l)) c.deref.ensures.0 in
    c.in_ok-extend_from_slice-2.ensures.items
    ∙ rw (
      c.as_bytes-2.ensures.text,
      c.put_text-2.ensures.text,
      c.put_number.ensures.text,
      c.put_byte.ensures.text,
      c.clear-2.ensures,
      entries,
      opened,
      c.as_bytes.ensures.text,
      c.put_comma.ensures,
      c.put_text.ensures.text,
      c.clear.ensures,
    )
    (simp append_assoc)
