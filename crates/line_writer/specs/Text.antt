-- Pieces of text that the lines of every command are joined from. A text is the list of its bytes.
use Rattle.std.specs.Prelude.{ℕ, ◌-◌, ◌/◌, ◌%◌, ◌==◌, Bool, ◌&&◌, nat_lt, List, ◌++◌, length, drop, codes, slice_index, replicate}
use Rattle.std.specs.Fmt.{decimal}
use Rattle.std.specs.List.{list_all, prefix_len, take_while}
use Rattle.hex.specs.Hex.{encode_lower}
use Rattle.byteorder.specs.Endian.{big_bytes}

-- a decimal number with zeros before it, so that it has `width` digits or more
abbrev pub zero_padded : ℕ → ℕ → List ℕ
zero_padded width n = replicate (width - length (decimal n)) 48 ++ decimal n

-- the four numbers of an IPv4 address, joined by dots
abbrev pub address : List ℕ → List ℕ
address bytes =
    decimal (slice_index bytes 0) ++ codes "." ++ decimal (slice_index bytes 1) ++
    codes "." ++ decimal (slice_index bytes 2) ++ codes "." ++ decimal (slice_index bytes 3)

-- an address and a port
abbrev pub endpoint : List ℕ → ℕ → List ℕ
endpoint bytes port = address bytes ++ codes ":" ++ decimal port

-- a number of `width` bytes in hexadecimal, two digits a byte, the highest first
abbrev pub hexadecimal : ℕ → ℕ → List ℕ
hexadecimal width n = encode_lower (big_bytes width n)

-- a letter, a digit or a sign that is printed, and no blank
abbrev pub is_printable : ℕ → Bool
is_printable byte = nat_lt 32 byte && nat_lt byte 127

abbrev pub are_zero : List ℕ → Bool
are_zero bytes = list_all (λ byte. byte == 0) bytes

-- the characters that a reference identifier begins with
abbrev pub name_of : List ℕ → List ℕ
name_of bytes = take_while is_printable bytes

-- whether they are its name: one to four of them, left-justified, and zero bytes alone behind them
-- (RFC 5905, section 7.3). Zero bytes alone, a blank, or a zero byte between characters are none.
abbrev pub is_named : List ℕ → Bool
is_named bytes =
    nat_lt 0 (prefix_len is_printable bytes) &&
    are_zero (drop (prefix_len is_printable bytes) bytes)

-- parts of 10^9 as parts of 10^6, with three decimals
abbrev pub millionths : ℕ → List ℕ
millionths n = decimal (n / 1000) ++ codes "." ++ zero_padded 3 (n % 1000)
