-- The numbers in a capture's headers. Their byte order is the writer's, and a parameter of every
-- definition.
use Rattle.std.specs.Prelude.{ℕ, List}
use Rattle.byteorder.specs.Endian.{big_number, little_number, big_bytes, little_bytes}
use Rattle.pcap_reader.specs.declared.format.Endian.{Endian}
use Rattle.pcap_reader.specs.declared.format.Endian.TheVariants.{Big, Little}

-- the number in the first `width` bytes
abbrev pub number_in : Endian → ℕ → List ℕ → ℕ
number_in Big width bytes = big_number width bytes
number_in Little width bytes = little_number width bytes

-- the `width` bytes of a number
abbrev pub spelled : Endian → ℕ → ℕ → List ℕ
spelled Big width n = big_bytes width n
spelled Little width n = little_bytes width n
