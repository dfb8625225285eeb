-- The line of `list` for one NTP packet: twenty fields with one blank between them.
use Rattle.std.specs.Prelude.{ℕ, ◌==◌, List, [], ◌∷◌, ◌++◌, codes, Option, ℤ, pos, if◌then◌else◌}
use Rattle.listing.specs.Common.{option_map, decimal, signed_decimal, join_with_byte, encode_lower, Unit as SubsecondUnit, Micro, Nano, window_low, window_high, unfolded, Fields, leap_of, version_of, mode_of, stratum_of, precision_of, root_delay_of, root_dispersion_of, reference_id_of, reference_of, origin_of, receive_of, transmit_of, Packet, packet_of, RecordHead, Record, zero_padded, endpoint, hexadecimal}

-- the digits of a sub-second field
abbrev pub sub_digits : SubsecondUnit → ℕ
sub_digits Micro = 6
sub_digits Nano = 9

-- field 2: the record's time (field 1 is its number)
unfoldable pub time_field : RecordHead → List ℕ
time_field head =
    decimal head.sec ++ codes "." ++ zero_padded (sub_digits head.unit) head.sub

-- fields 3 and 4: from where and to where
unfoldable pub endpoint_fields : Fields → List (List ℕ)
endpoint_fields d =
    endpoint d.source d.source_port ∷ endpoint d.destination d.destination_port ∷ []

-- fields 5 to 7: version, mode and leap indicator
unfoldable pub mode_fields : List ℕ → List (List ℕ)
mode_fields header =
    (codes "v" ++ decimal (version_of header)) ∷ (codes "m" ++ decimal (mode_of header)) ∷
    (codes "l" ++ decimal (leap_of header)) ∷ []

-- fields 8 and 9: stratum and precision
unfoldable pub clock_fields : List ℕ → List (List ℕ)
clock_fields header =
    (codes "s" ++ decimal (stratum_of header)) ∷
    (codes "p" ++ signed_decimal (precision_of header)) ∷ []

-- fields 10 to 12: root delay, root dispersion and reference identifier
unfoldable pub root_fields : List ℕ → List (List ℕ)
root_fields header =
    decimal (root_delay_of header) ∷ decimal (root_dispersion_of header) ∷
    encode_lower (reference_id_of header) ∷ []

-- fields 13 to 16: the four timestamps as they stand
unfoldable pub stamp_fields : List ℕ → List (List ℕ)
stamp_fields header =
    hexadecimal 8 (reference_of header) ∷ hexadecimal 8 (origin_of header) ∷
    hexadecimal 8 (receive_of header) ∷ hexadecimal 8 (transmit_of header) ∷ []

-- the moment near which the packet's timestamps are unfolded: the first tick of the record's window
abbrev pub near_of : RecordHead → ℤ
near_of head = pos (window_low head.unit head.sec head.sub)

-- a timestamp unfolded near a moment, in ticks, and a dash for the timestamp zero, which means
-- unknown (RFC 5905, section 6)
unfoldable pub unfolded_text : ℤ → ℕ → List ℕ
unfolded_text near stamp =
    if stamp == 0 then codes "-" else signed_decimal (unfolded stamp near)

-- fields 17 to 20: the window of the record's time, in ticks, and when the sender says that it
-- received and sent
unfoldable pub tick_fields : RecordHead → List ℕ → List (List ℕ)
tick_fields head header =
    signed_decimal (near_of head) ∷
    signed_decimal (pos (window_high head.unit head.sec head.sub)) ∷
    unfolded_text (near_of head) (receive_of header) ∷
    unfolded_text (near_of head) (transmit_of header) ∷ []

-- the twenty fields one by one
abbrev pub packet_fields : RecordHead → Packet → List (List ℕ)
packet_fields head packet =
    decimal head.number ∷ time_field head ∷ (
    endpoint_fields packet.datagram ++ mode_fields packet.header ++ clock_fields packet.header ++
    root_fields packet.header ++ stamp_fields packet.header ++ tick_fields head packet.header)

-- the whole line: its fields with one blank between them, and a line feed
unfoldable pub packet_line : RecordHead → Packet → List ℕ
packet_line head packet = join_with_byte 32 (packet_fields head packet) ++ codes "\n"

-- fields that follow another, a blank before each, and then a text
abbrev pub spaced : List (List ℕ) → List ℕ → List ℕ
spaced [] text = text
spaced (field ∷ fields) text = codes " " ++ field ++ spaced fields text

-- the line of a record, if it holds an NTP packet
unfoldable pub line_of : Record → Option (List ℕ)
line_of r = option_map (packet_line r.head) (packet_of r.bytes)
