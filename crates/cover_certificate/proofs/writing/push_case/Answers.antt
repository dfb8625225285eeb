use Rattle.cover_certificate.proofs.Common.{◌≡◌, ◌++◌, ◌∙◌, ap, map, append_assoc, join_with_byte, comma, decimal, piece_data, piece_text}
use Rattle.cover_certificate.proofs.writing.push_case.Goals as goal

pub returns-clause-text : goal.returns-clause-text
returns-clause-text c =
    let opened = c.in_ok-extend_from_slice.ensures.items in
    let groups : c.push_groups.new.text.items
    ≡ c.extend_from_slice.new.self.items ++ join_with_byte comma (map decimal c.args.case.now.groups.items) =
    c.in_ok-push_groups.ensures.text
    ∙ ap (λ l. c.extend_from_slice.new.self.items ++ join_with_byte comma (map decimal l)) c.deref.ensures.0 in
    let pieces : c.push_pieces.new.text.items
    ≡ c.extend_from_slice-2.new.self.items
    ++ join_with_byte comma (map piece_text (map piece_data c.args.case.now.pieces.items)) =
    c.in_ok-push_pieces.ensures.text
    ∙ ap (λ l. c.extend_from_slice-2.new.self.items ++ join_with_byte comma (map piece_text (map piece_data l)))
    c.deref-2.ensures.value in
    c.in_ok-extend_from_slice-3.ensures.items
    ∙ rw (
      pieces,
      c.in_ok-extend_from_slice-2.ensures.items,
      groups,
      opened,
      c.as_bytes.ensures.text,
      c.put_comma.ensures,
      c.put_text.ensures.text,
      c.new-line.ensures,
    )
    (simp append_assoc)
