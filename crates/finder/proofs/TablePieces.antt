-- The best samples of each server in each piece, table by table.
use Rattle.finder.proofs.Common.{◌≡◌, ℕ, zero, suc, ◌+◌, ◌<◌, ◌≤◌, ◌^◌, ℤ, pos, ◌≤ℤ◌, ◌<ℤ◌, List, [], ◌∷◌, ◌++◌, length, Option, Some, refl, sym, ap, ◌∙◌, le_trans, arith, Vec, Global, All, slice_get, filter_map, range_with_len, filter_map-append, length-map-range_with_len, get_or-map-range_with_len, slice_get-get_or, slice_get_within, piece_end_of, IsPieceAt, ArePieces, piece_begin_of, ends_of}
use Rattle.finder.proofs.List.{one_more}
use Rattle.finder.proofs.SpanPieces.{each_is_piece, one_piece}

-- the best samples of a server in each piece
abbrev Table : Type 0
Table = Vec (ℕ × ℕ) Global

module _ (first last : ℤ) (step n : ℕ) where
  end_at : (k : ℕ) → k < n → slice_get (ends_of first last step n) k ≡ Some (piece_end_of first last step k)
  end_at k below =
      let f = piece_end_of first last step in
      let count = length-map-range_with_len f 0 n in
      slice_get-get_or (ends_of first last step n) k first (omega (arith, count))
      ∙ ap Some (get_or-map-range_with_len f 0 n k k first below (omega arith))

  begin_at : (k : ℕ) → k < n
      → slice_get (first ∷ ends_of first last step n) k ≡ Some (piece_begin_of first last step k)
  begin_at zero below = refl
  begin_at (suc k) below = end_at k (omega arith)

  pub piece_at : (k : ℕ) → k < n
      → IsPieceAt first (ends_of first last step n) k (piece_begin_of first last step k)
      (piece_end_of first last step k)
  piece_at k below = record { begins = begin_at k below; ends_at = end_at k below }

  pub are_pieces : pos 0 ≤ℤ first → first ≤ℤ last → last <ℤ pos (2 ^ 64) → ArePieces first (ends_of first last step n)
  are_pieces from_zero in_order in_range k p q is =
      let count = length-map-range_with_len (piece_end_of first last step) 0 n in
      let within = slice_get_within (ends_of first last step n) k q is.ends_at in
      let below : k < n = omega (arith, count) in
      one_piece _ _ p q (each_is_piece first last in_order step from_zero in_range k)
      (sym (begin_at k below) ∙ is.begins) (sym (end_at k below) ∙ is.ends_at)

-- one more table, which gives what h gives of its server
pub table_more : {X Y : Type 0} (g : X → Option Y) (h : ℕ → Option Y) (n : ℕ) (old : List X) (x : X)
    → filter_map g old ≡ filter_map h (range_with_len 0 n) → g x ≡ h n
    → filter_map g (old ++ x ∷ []) ≡ filter_map h (range_with_len 0 (n + 1))
table_more g h n old x so_far same = grind (arith, filter_map-append g old (x ∷ []), one_more h n)

-- ---- the tables as they are passed on

pub few_tables : (servers : ℕ) (list tables : List Table) → list ≡ tables → length tables ≤ servers → servers ≤ 32
    → length list ≤ 32
few_tables servers list tables same few at_most = rw same (le_trans few at_most)

pub long_tables : (k n : ℕ) (list tables : List Table) → list ≡ tables → k < n
    → All (λ table. length table.items ≡ n) tables → All (λ table. k < length table.items) list
long_tables k n list tables same below long = rw same (λ i d within. rw (long i d within) below)

pub best_tables : (k : ℕ) (list tables : List Table) (best : List (ℕ × ℕ)) → list ≡ tables
    → filter_map (λ table. slice_get table.items k) tables ≡ best
    → filter_map (λ table. slice_get table.items k) list ≡ best
best_tables k list tables best same is = rw same is

pub ruleset read_tables = (few_tables, long_tables, best_tables)
