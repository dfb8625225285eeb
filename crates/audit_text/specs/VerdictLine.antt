-- The line of a verdict on a certificate of either form.
use Rattle.std.specs.Prelude.{ℕ, List, [], ◌∷◌, codes}
use Rattle.audit_text.specs.Common.{line_of, Word, Named, Style, Verdict, Why, Cut, BadSample, MixedServers, RepeatedServer, Contradiction, Exceeds, Uncovered}
use Rattle.checker.specs.declared.verdict.Verdict.TheVariants as pieces
use Rattle.checker.specs.declared.verdict.Why.TheVariants.{Unbounded}
use Rattle.cover_checker.specs.declared.verdict.CaseWhy.{CaseWhy}
use Rattle.cover_checker.specs.declared.verdict.CaseWhy.TheVariants.{TooManyGroups, NoGroup, RepeatedGroup, RepeatedCase}
use Rattle.cover_checker.specs.declared.verdict.CoverVerdict.{CoverVerdict}
use Rattle.cover_checker.specs.declared.verdict.CoverVerdict.TheVariants as covers
use Rattle.cover_checker.specs.declared.verdict.PieceWhy.{PieceWhy}
use Rattle.cover_checker.specs.declared.verdict.PieceWhy.TheVariants.{LeftOut, Of}
use Rattle.audit_text.specs.declared.verdict_line.AnyVerdict.{AnyVerdict}
use Rattle.audit_text.specs.declared.verdict_line.AnyVerdict.TheVariants.{OfPieces, ByCovers}

-- the word for each reason
abbrev pub why_word : Why → List ℕ
why_word Cut = codes "cut"
why_word BadSample = codes "bad-sample"
why_word MixedServers = codes "mixed-servers"
why_word RepeatedServer = codes "repeated-server"
why_word Unbounded = codes "unbounded"
why_word Contradiction = codes "contradiction"
why_word Exceeds = codes "exceeds"
why_word Uncovered = codes "uncovered"

-- of a case's piece
abbrev pub piece_why_word : PieceWhy → List ℕ
piece_why_word LeftOut = codes "left-out"
piece_why_word (Of why) = why_word why

-- of a case's groups
abbrev pub case_why_word : CaseWhy → List ℕ
case_why_word TooManyGroups = codes "too-many-groups"
case_why_word NoGroup = codes "no-group"
case_why_word RepeatedGroup = codes "repeated-group"
case_why_word RepeatedCase = codes "repeated-case"

-- the verdict on a certificate of pieces
unfoldable pub pieces_line : Style → Verdict → List ℕ
pieces_line style pieces.Yes = line_of style (Word (codes "verdict yes") ∷ [])
pieces_line style (pieces.No piece why) = line_of style (
    Word (codes "verdict no") ∷ Named (codes "piece") piece ∷ Word (why_word why) ∷ [])

-- a no at a part of a certificate: what it is, its number, and the word for why
abbrev pub no_line : Style → List ℕ → ℕ → List ℕ → List ℕ
no_line style part number word = line_of style (
    Word (codes "verdict no") ∷ Named part number ∷ Word word ∷ [])

-- a no at a case's piece
abbrev pub bad_piece_line : Style → ℕ → ℕ → PieceWhy → List ℕ
bad_piece_line style case piece why = line_of style (
    Word (codes "verdict no") ∷ Named (codes "case") case ∷ Named (codes "piece") piece ∷
    Word (piece_why_word why) ∷ [])

-- on one by covers
unfoldable pub covers_line : Style → CoverVerdict → List ℕ
covers_line style covers.Yes = line_of style (Word (codes "verdict yes") ∷ [])
covers_line style (covers.NoConflict k) =
    no_line style (codes "conflict") k (codes "no-conflict")
covers_line style covers.NoCase = line_of style (Word (codes "verdict no no-case") ∷ [])
covers_line style (covers.BadCase k why) = no_line style (codes "case") k (case_why_word why)
covers_line style covers.Unanswered = line_of style (Word (codes "verdict no unanswered") ∷ [])
covers_line style (covers.BadPiece k piece why) = bad_piece_line style k piece why

-- on either
abbrev pub verdict_line : Style → AnyVerdict → List ℕ
verdict_line style (OfPieces verdict) = pieces_line style verdict
verdict_line style (ByCovers verdict) = covers_line style verdict
