-- What a capture's frames are, one by one, and the records that say them.
use Rattle.audit.proofs.Common.{ints, nat_tests, ◌≡◌, ℕ, suc, ◌+◌, ◌≤◌, List, [], ◌∷◌, ◌++◌, length, map, take, drop, refl, append_assoc, arith, All, length-drop, length-take-le, take-append-drop, Unit as TimeUnit, Endian, Record, AreRecordsFrom, IsCapture, magic_of, spelled, CapturedFrame, IsCaptureOf, IsLawfulFrame, frame_of}
use Rattle.audit.proofs.RecordFrames.{respelled}

-- ---- the records of frames

-- the record that says a frame
abbrev record_of : TimeUnit → ℕ → ℕ → CapturedFrame → Record
record_of unit number place frame = record {
  head = record {
    place = place;
    number = number;
    sec = frame.seconds;
    sub = frame.part;
    unit = unit;
    captured = length frame.bytes;
    original = frame.wire_length;
  };
  bytes = frame.bytes;
}

-- the records that say frames, the first with this number and at this place
abbrev records_from : TimeUnit → ℕ → ℕ → List CapturedFrame → List Record
records_from unit number place [] = []
records_from unit number place (frame ∷ frames) = record_of unit number place frame
    ∷ records_from unit (number + 1) (place + (16 + length frame.bytes)) frames

module _ (unit : TimeUnit) where
  lawful_records : (number place : ℕ) (frames : List CapturedFrame) → All (IsLawfulFrame unit) frames
      → number + length frames ≤ 4000000 → AreRecordsFrom unit number place (records_from unit number place frames)
  lawful_records number place [] all few = tt
  lawful_records number place (frame ∷ frames) all few =
      let first : IsLawfulFrame unit frame = all 0 frame (omega arith) in
      let others : All (IsLawfulFrame unit) frames = λ k d below. all (suc k) d (omega (arith, below)) in
      grind (
        arith,
        ints,
        nat_tests,
        first,
        lawful_records (number + 1) (place + (16 + length frame.bytes)) frames others (omega (arith, few)),
      )

  same_frames : (number place : ℕ) (frames : List CapturedFrame)
      → map frame_of (records_from unit number place frames) ≡ frames
  same_frames number place [] = refl
  same_frames number place (frame ∷ frames) =
      rw (same_frames (number + 1) (place + (16 + length frame.bytes)) frames) refl

-- ---- their capture

-- a capture of frames is one of records that say them
pub of_records : (bytes : List ℕ) (order : Endian) (unit : TimeUnit) (frames : List CapturedFrame)
    → IsCaptureOf bytes order unit frames → (records : List Record)
    × IsCapture bytes (record { order = order; unit = unit }) records × (map frame_of records ≡ frames)
of_records bytes order unit frames capture =
    let records = records_from unit 0 24 frames in
    let are = lawful_records unit 0 24 frames capture.in_range (omega (arith, capture.few)) in
    let same = same_frames unit 0 24 frames in (
      records,
      record {
        header = spelled order 4 (magic_of unit) ++ spelled order 2 2 ++ spelled order 2 4 ++ take 8 capture.ignored
            ++ drop 8 capture.ignored ++ spelled order 4 1;
        -- the bytes that play no part are the eight after the version, and the snapshot length
        is_header = record {
          ignored = take 8 capture.ignored;
          snapshot = drop 8 capture.ignored;
          ignored_length = length-take-le 8 capture.ignored (omega (arith, capture.twelve_ignored));
          snapshot_length = omega (arith, length-drop 8 capture.ignored, capture.twelve_ignored);
          joined = refl;
        };
        are_records = are;
        joined = grind (
          arith,
          append_assoc,
          capture.joined,
          take-append-drop 8 capture.ignored,
          same,
          respelled order unit 0 24 records are,
        );
      },
      same,
    )
