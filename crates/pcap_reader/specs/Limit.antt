-- How many bytes of a feed are taken for a capture.
use Rattle.std.specs.Prelude.{ℕ, ◌+◌, ◌*◌, ◌^◌}
use Rattle.pcap_reader.specs.Capture.{most_captured, most_records}

-- The most bytes that are taken in all: a header, 4,000,000 records with 16 bytes and 262,144
-- bytes each, and one byte more, which shows that the records are too many. They are
-- 1,048,640,000,025.
abbrev pub most_taken : ℕ
most_taken = 24 + most_records * (16 + most_captured) + 1

-- the most bytes that are taken and not yet consumed: one buffer
abbrev pub buffer_size : ℕ
buffer_size = 2 ^ 19
