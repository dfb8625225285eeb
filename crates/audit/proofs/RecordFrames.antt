-- What a capture's records are, one by one, and the frames that they say.
use Rattle.audit.proofs.Common.{◌≡◌, ℕ, zero, suc, ◌+◌, ◌≤◌, List, [], ◌∷◌, ◌++◌, length, map, get_or, Option, Some, None, refl, ap, ◌∙◌, append_assoc, arith, All, slice_get, flat_map, option_and_then, option_map, length-append, length-map, All-map, slice_get-get_or, slice_get-map, Unit as TimeUnit, Endian, Format, Record, AreRecordsFrom, IsCapture, IsRecordAt, spelling, CapturedFrame, IsCaptureOf, IsLawfulFrame, frame_of, record_bytes, slice_get-below, ints, nat_tests}

-- ---- records, one by one

-- the record with this number, wherever it stands
abbrev pub IsNumbered : TimeUnit → ℕ → Record → Type 0
IsNumbered unit number r = (place : ℕ) × IsRecordAt unit number place r

each_from : (unit : TimeUnit) (number place : ℕ) (records : List Record) → AreRecordsFrom unit number place records
    → (k : ℕ) (r : Record) → slice_get records k ≡ Some r → IsNumbered unit (number + k) r
each_from unit number place [] are k r at = absurd cc
each_from unit number place (first ∷ records) are zero r at = grind (arith, ints, nat_tests)
each_from unit number place (first ∷ records) are (suc k) r at =
    grind (arith, ints, nat_tests, each_from unit (number + 1) (place + (16 + length first.bytes)) records are.1 k r at)

module _ (unit : TimeUnit) (records : List Record) (are : AreRecordsFrom unit 0 24 records) where
  pub each_record : (k : ℕ) (r : Record) → slice_get records k ≡ Some r → IsNumbered unit k r
  each_record k r at = grind (arith, each_from)

  range_of : (k : ℕ) (r : Record) → IsNumbered unit k r → IsLawfulFrame unit (frame_of r)
  range_of k r (place, is) = grind (arith, ints, nat_tests)

  all_in_range : All (IsLawfulFrame unit) (map frame_of records)
  all_in_range = All-map (IsLawfulFrame unit) frame_of records
      (λ k d below. grind (
        arith,
        ints,
        nat_tests,
        range_of k,
        each_record k (get_or records k d),
        slice_get-get_or records k d below,
      ))

  few_records : length records ≤ 4000000
  few_records = grind (arith, ints, nat_tests, slice_get-below records 4000000, each_record 4000000)

-- ---- their bytes

module _ (order : Endian) (unit : TimeUnit) where
  pub respelled : (number place : ℕ) (records : List Record) → AreRecordsFrom unit number place records
      → spelling order records ≡ flat_map (record_bytes order) (map frame_of records)
  respelled number place [] are = refl
  respelled number place (r ∷ records) are =
      grind (arith, are.0.whole, respelled (number + 1) (place + (16 + length r.bytes)) records are.1)

-- a capture of records is one of the frames that they say
pub captured : (bytes : List ℕ) (format : Format) (records : List Record) → IsCapture bytes format records
    → IsCaptureOf bytes format.order format.unit (map frame_of records)
captured bytes format records capture =
    let h = capture.is_header in
    record {
      ignored = h.ignored ++ h.snapshot;
      twelve_ignored = grind (arith, length-append h.ignored h.snapshot);
      in_range = all_in_range format.unit records capture.are_records;
      few = grind (arith, length-map records frame_of, few_records format.unit records capture.are_records);
      joined = grind (
        arith,
        append_assoc,
        capture.joined,
        h.joined,
        respelled format.order format.unit 0 24 records capture.are_records,
      );
    }

-- ---- frames, one by one

-- a frame of these records is said by one of them
pub record SaidBy (records : List Record) (k : ℕ) (frame : CapturedFrame) : Type 0 where
  pub by : Record
  pub stands : slice_get records k ≡ Some by
  pub is : frame_of by ≡ frame

-- what is made of a value, if there is one
pub mapped : {A B : Type 0} (f : A → B) (o : Option A) (b : B) → option_map f o ≡ Some b
    → (a : A) × (o ≡ Some a) × (f a ≡ b)
mapped f None b is = absurd cc
mapped f (Some a) b is = (a, refl, cc)

-- what comes of a value, if there is one
pub passed : {A B : Type 0} (f : A → Option B) (o : Option A) (b : B) → option_and_then f o ≡ Some b
    → (a : A) × (o ≡ Some a) × (f a ≡ Some b)
passed f x1 b is = grind (arith)

pub said_by : (records : List Record) (k : ℕ) (frame : CapturedFrame)
    → slice_get (map frame_of records) k ≡ Some frame → SaidBy records k frame
said_by records k frame at = grind (arith, ints, nat_tests, slice_get records k, slice_get-map frame_of records k)

pub frame_at : (records : List Record) (k : ℕ) (r : Record) → slice_get records k ≡ Some r
    → slice_get (map frame_of records) k ≡ Some (frame_of r)
frame_at records k r at = slice_get-map frame_of records k ∙ ap (option_map frame_of) at
