-- The bytes in which the worked exchange is captured: a capture of one request and its reply, which
-- was written by hand.
use Rattle.std.specs.Prelude.{ℕ, List, [], ◌∷◌, ◌++◌}
use Rattle.checker.specs.Common.{Micro, Little, Format, Record}

-- the frame of the request: 192.0.2.10 asks 192.0.2.1
abbrev pub request_frame : List ℕ
request_frame =
    2 ∷ 0 ∷ 0 ∷ 0 ∷ 0 ∷ 2 ∷ 2 ∷ 0 ∷ 0 ∷ 0 ∷ 0 ∷ 1 ∷ 8 ∷ 0 ∷ 69 ∷ 0 ∷ 0 ∷ 76 ∷ 0 ∷ 0 ∷ 64 ∷ 0 ∷
    64 ∷ 17 ∷ 0 ∷ 0 ∷ 192 ∷ 0 ∷ 2 ∷ 10 ∷ 192 ∷ 0 ∷ 2 ∷ 1 ∷ 192 ∷ 0 ∷ 0 ∷ 123 ∷ 0 ∷ 56 ∷ 0 ∷ 0 ∷
    35 ∷ 0 ∷ 6 ∷ 0 ∷ 0 ∷ 0 ∷ 0 ∷ 0 ∷ 0 ∷ 0 ∷ 0 ∷ 0 ∷ 0 ∷ 0 ∷ 0 ∷ 0 ∷ 0 ∷ 0 ∷ 0 ∷ 0 ∷ 0 ∷ 0 ∷ 0 ∷
    0 ∷ 0 ∷ 0 ∷ 0 ∷ 0 ∷ 0 ∷ 0 ∷ 0 ∷ 0 ∷ 0 ∷ 0 ∷ 0 ∷ 0 ∷ 0 ∷ 0 ∷ 0 ∷ 0 ∷ 17 ∷ 34 ∷ 51 ∷ 68 ∷ 85 ∷
    102 ∷ 119 ∷ 136 ∷ []

-- the frame of the reply
abbrev pub reply_frame : List ℕ
reply_frame =
    2 ∷ 0 ∷ 0 ∷ 0 ∷ 0 ∷ 1 ∷ 2 ∷ 0 ∷ 0 ∷ 0 ∷ 0 ∷ 2 ∷ 8 ∷ 0 ∷ 69 ∷ 0 ∷ 0 ∷ 76 ∷ 0 ∷ 0 ∷ 64 ∷ 0 ∷
    64 ∷ 17 ∷ 0 ∷ 0 ∷ 192 ∷ 0 ∷ 2 ∷ 1 ∷ 192 ∷ 0 ∷ 2 ∷ 10 ∷ 0 ∷ 123 ∷ 192 ∷ 0 ∷ 0 ∷ 56 ∷ 0 ∷ 0 ∷
    36 ∷ 1 ∷ 6 ∷ 224 ∷ 0 ∷ 0 ∷ 0 ∷ 0 ∷ 0 ∷ 0 ∷ 0 ∷ 0 ∷ 71 ∷ 80 ∷ 83 ∷ 0 ∷ 191 ∷ 69 ∷ 72 ∷ 128 ∷
    0 ∷ 0 ∷ 0 ∷ 0 ∷ 17 ∷ 34 ∷ 51 ∷ 68 ∷ 85 ∷ 102 ∷ 119 ∷ 136 ∷ 191 ∷ 69 ∷ 72 ∷ 128 ∷ 2 ∷ 143 ∷
    92 ∷ 41 ∷ 191 ∷ 69 ∷ 72 ∷ 128 ∷ 2 ∷ 143 ∷ 92 ∷ 41 ∷ []

-- the capture: a header of 24 bytes, and two records with 16 more before their frames
abbrev pub worked_capture : List ℕ
worked_capture =
    (212 ∷ 195 ∷ 178 ∷ 161 ∷ 2 ∷ 0 ∷ 4 ∷ 0 ∷ 0 ∷ 0 ∷ 0 ∷ 0 ∷ 0 ∷ 0 ∷ 0 ∷ 0 ∷ 0 ∷ 0 ∷ 4 ∷ 0 ∷ 1 ∷ 0 ∷
    0 ∷ 0 ∷ [])
    ++ (0 ∷ 202 ∷ 154 ∷ 59 ∷ 0 ∷ 0 ∷ 0 ∷ 0 ∷ 90 ∷ 0 ∷ 0 ∷ 0 ∷ 90 ∷ 0 ∷ 0 ∷ 0 ∷ []) ++ request_frame
    ++ (0 ∷ 202 ∷ 154 ∷ 59 ∷ 32 ∷ 78 ∷ 0 ∷ 0 ∷ 90 ∷ 0 ∷ 0 ∷ 0 ∷ 90 ∷ 0 ∷ 0 ∷ 0 ∷ []) ++ reply_frame

-- its format: little-endian, with microseconds
abbrev pub worked_format : Format
worked_format = record { order = Little; unit = Micro }

-- its two records, 20 ms apart
abbrev pub worked_records : List Record
worked_records =
    record {
      head = record {
        place = 24;
        number = 0;
        sec = 1000000000;
        sub = 0;
        unit = Micro;
        captured = 90;
        original = 90;
      };
      bytes = request_frame;
    } ∷ record {
      head = record {
        place = 130;
        number = 1;
        sec = 1000000000;
        sub = 20000;
        unit = Micro;
        captured = 90;
        original = 90;
      };
      bytes = reply_frame;
    } ∷ []
