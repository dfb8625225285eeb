-- What one server says about a stretch.
use Rattle.std.specs.Prelude.{ℕ}
use Rattle.sample_interval.specs.declared.kinds.Sample.{Sample}
use Rattle.span_cover.specs.Piece.{piece_interval_of}
use Rattle.span_cover.specs.declared.part.Part.{Part}
use Rattle.span_cover.specs.declared.stretch.Stretch.{Stretch}

-- one server's interval, by a sample for each end
abbrev pub part_of : Sample → Sample → Stretch → ℕ → Part
part_of low high stretch ppb = record {
  server = low.server;
  interval = piece_interval_of low high stretch.begin stretch.end ppb;
}
