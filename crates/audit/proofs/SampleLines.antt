-- The lines of samples that are left to go out, and the line of counts.
use Rattle.audit.proofs.Common.{sym, [], append-nil, get_or-map, length-map, compact_data, exchange_shown, ◌≡◌, ◌∙◌, ◌+◌, ◌<◌, ◌≤◌, ◌++◌, ℕ, List, length, drop, get_or, refl, ap, append_assoc, Plain, ClaimData, Exchange, Collection, sample_line, samples_text, add-one, drop-cons, drop_all}
use Rattle.pairing.specs.declared.compact.CompactCollection.{CompactCollection}
use Rattle.pairing.specs.declared.compact.CompactExchange.{CompactExchange}
use Rattle.audit_text.specs.CountsLine.{counts_line}
use Rattle.audit_text.specs.Table.{heading, rows_from}

module _ (claim : ClaimData) (held : CompactCollection) where
  abbrev pub collection : Collection
  collection = compact_data held

  -- the line of counts
  abbrev pub last_line : List ℕ
  last_line = counts_line collection.counts (length collection.exchanges)

  -- what is left of the text after so many lines
  abbrev pub left_after : ℕ → List ℕ
  left_after number = rows_from (sample_line Plain claim) number (drop number collection.exchanges) ++ last_line

  -- at first all of it is left
  pub all_left : samples_text Plain claim collection ≡ left_after 0
  unfolding samples_text heading
  all_left = refl

  -- the next line is that of the next exchange
  next_row : (i : ℕ) (d : Exchange) → i < length collection.exchanges →
      rows_from (sample_line Plain claim) i (drop i collection.exchanges)
      ≡ sample_line Plain claim i (get_or collection.exchanges i d)
      ++ rows_from (sample_line Plain claim) (i + 1) (drop (i + 1) collection.exchanges)
  next_row i d within =
      ap (rows_from (sample_line Plain claim) i) (drop-cons collection.exchanges i d within) ∙ rw add-one refl

  pub next_line : (i : ℕ) (d : CompactExchange) (x : Exchange) (part : List ℕ) → i < length held.exchanges.items →
      x ≡ exchange_shown (get_or held.exchanges.items i d) → part ≡ sample_line Plain claim i x →
      left_after i ≡ part ++ left_after (i + 1)
  next_line i d x part within is line =
      let stands = is ∙ sym (get_or-map exchange_shown held.exchanges.items i d x within) in
      ap (λ l. l ++ last_line) (next_row i x (rw (length-map held.exchanges.items exchange_shown) within))
      ∙ (append_assoc (sample_line Plain claim i (get_or collection.exchanges i x)) _ last_line
      ∙ ap (λ (l : List ℕ). l ++ left_after (i + 1)) (sym (line ∙ ap (sample_line Plain claim i) stands)))

  -- after all samples the line of counts is left
  pub counts_left : (i : ℕ) (part : List ℕ) → length held.exchanges.items ≤ i → part ≡ last_line →
      left_after i ≡ part ++ []
  counts_left i part past line =
      ap (λ l. rows_from (sample_line Plain claim) i l ++ last_line)
      (drop_all i collection.exchanges (rw (length-map held.exchanges.items exchange_shown) past))
      ∙ sym (append-nil part ∙ line)
