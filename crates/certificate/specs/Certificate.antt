-- What a certificate says.
--
-- It cuts a span into pieces; each ends where the next begins. For a piece it names, server by
-- server, the sample whose low end and the sample whose high end it relies on. Samples are numbered
-- from 0 in the order of the exchanges.
use Rattle.std.specs.Prelude.{ℕ, ◌^◌, ◌<◌, ◌≤◌, List, length, map, All}
use Rattle.certificate.specs.declared.certificate.Certificate.{Certificate}
use Rattle.certificate.specs.declared.certificate.Piece.{Piece}

-- a piece as lists and numbers: its end in Unix ticks of 2^-32 s, and pairs of samples, low and
-- high
pub record PieceData : Type 0 where
  pub entries : List (ℕ × ℕ)
  pub upto : ℕ

pub record CertificateData : Type 0 where
  pub pieces : List PieceData

-- what a value of the program says
abbrev pub piece_data : Piece → PieceData
piece_data piece = record { entries = piece.entries.items; upto = piece.upto }

abbrev pub data_of : Certificate → CertificateData
data_of certificate = record { pieces = map piece_data certificate.pieces.items }

-- an entry names two samples by numbers below 2^32
pub record NamesSamples (entry : ℕ × ℕ) : Type 0 where
  pub low : entry.0 < 2 ^ 32
  pub high : entry.1 < 2 ^ 32

-- a piece that can be read: few entries, and each names two samples
pub record IsReadable (piece : PieceData) : Type 0 where
  pub few : length piece.entries ≤ 32
  pub named : All NamesSamples piece.entries

-- a piece as a program holds it: it can be read, and its end is a number of 64 bits
pub record IsHeld (piece : PieceData) : Type 0 where
  pub readable : IsReadable piece
  pub end : piece.upto < 2 ^ 64

-- the most pieces of a certificate that is read, and the most entries of a piece
abbrev pub max_pieces : ℕ
max_pieces = 100000

abbrev pub max_entries : ℕ
max_entries = 32
