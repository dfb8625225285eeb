-- The NTP packet header (RFC 5905, section 7.3).
--
-- A packet begins with a header of 48 bytes. What follows them, extension fields and keys, is no
-- part of it. Each field is the number in fixed bytes of the header, the highest byte first:
--
--     first byte   bytes   field
--              0       1   leap indicator (2 bits), version (3), mode (3), the highest bits first
--              1       1   stratum
--              2       1   poll, signed, the log2 of seconds
--              3       1   precision, signed, the log2 of seconds
--              4       4   root delay, in the short format
--              8       4   root dispersion, in the short format
--             12       4   reference identifier
--             16       8   reference timestamp
--             24       8   origin timestamp
--             32       8   receive timestamp
--             40       8   transmit timestamp
--
-- The short format counts units of 2^-16 s, and a timestamp units of 2^-32 s (RFC 5905, section 6).
-- A tick is 2^-32 s. Root delay and root dispersion are read as unsigned.
use Rattle.std.specs.Prelude.{ℕ, ◌+◌, ◌-◌, ◌*◌, ◌/◌, ◌%◌, ◌^◌, ℤ, pos, negsuc, int_lt, List, take, slice_index, slice_range, Option, Some, None, if◌then◌else◌}
use Rattle.byteorder.specs.Endian.{big_number, twos_complement}

-- the header of a payload: its first 48 bytes
abbrev pub header_of : List ℕ → List ℕ
header_of payload = take 48 payload

-- the number in `width` bytes from the byte `first` on, the highest byte first
unfoldable pub field : ℕ → ℕ → List ℕ → ℕ
field first width bytes = big_number width (slice_range bytes first (first + width))

-- the same for one byte, read as two's complement
unfoldable pub signed_field : ℕ → List ℕ → ℤ
signed_field first bytes = twos_complement 1 (field first 1 bytes)

-- the leap indicator: the highest two bits of byte 0
unfoldable pub leap_of : List ℕ → ℕ
leap_of bytes = slice_index bytes 0 / 64

-- the version: the next three bits of byte 0
unfoldable pub version_of : List ℕ → ℕ
version_of bytes = slice_index bytes 0 / 8 % 8

-- the mode: the lowest three bits of byte 0
unfoldable pub mode_of : List ℕ → ℕ
mode_of bytes = slice_index bytes 0 % 8

abbrev pub stratum_of : List ℕ → ℕ
stratum_of bytes = field 1 1 bytes

abbrev pub poll_of : List ℕ → ℤ
poll_of bytes = signed_field 2 bytes

abbrev pub precision_of : List ℕ → ℤ
precision_of bytes = signed_field 3 bytes

abbrev pub root_delay_of : List ℕ → ℕ
root_delay_of bytes = field 4 4 bytes

abbrev pub root_dispersion_of : List ℕ → ℕ
root_dispersion_of bytes = field 8 4 bytes

-- the identifier's four bytes
unfoldable pub reference_id_of : List ℕ → List ℕ
reference_id_of bytes = slice_range bytes 12 16

abbrev pub reference_of : List ℕ → ℕ
reference_of bytes = field 16 8 bytes

abbrev pub origin_of : List ℕ → ℕ
origin_of bytes = field 24 8 bytes

abbrev pub receive_of : List ℕ → ℕ
receive_of bytes = field 32 8 bytes

abbrev pub transmit_of : List ℕ → ℕ
transmit_of bytes = field 40 8 bytes

-- A precision p in ticks: 2^(32 + p), and one tick if p is -32 or less. Below 0 p is -(n + 1), so
-- 32 + p is 31 - n, which stops at 0.
abbrev pub precision_ticks_of : ℤ → ℕ
precision_ticks_of (pos p) = 2 ^ (32 + p)
precision_ticks_of (negsuc n) = 2 ^ (31 - n)

-- The root distance in ticks: half the root delay and the root dispersion (RFC 5905, section 11.2),
-- and the precision. A unit of the short format is 65536 ticks, and half of one is 32768. With a
-- precision above 16, which is 18 hours, there is none.
unfoldable pub root_distance_of : List ℕ → Option ℤ
root_distance_of bytes =
    if int_lt (pos 16) (precision_of bytes) then None
    else Some (pos (root_delay_of bytes * 32768 + root_dispersion_of bytes * 65536
    + precision_ticks_of (precision_of bytes)))
