-- The line of a run's fault, without its line feed.
use Rattle.std.specs.Prelude.{ℕ, List, [], ◌∷◌, codes}
use Rattle.report.specs.Common.{FieldData, fields_text, Word, Named, Number, Nothing, Plain, number_of as capture_number, CaptureFault, TornHeader, Magic, Version, Link, TornRecord, TooLong, BadFraction, TooMany, Read, Memory, Failed, claim_number, ClaimFault, certificate_number, AnyFault, CertificateFault, CoverFault, refutation_number, RefutationFault, times_number, TimesFault}
use Rattle.claim_file.specs.declared.fault.ClaimFault.TheVariants as claims
use Rattle.certificate.specs.declared.fault.CertificateFault.TheVariants as certificates
use Rattle.certificate.specs.declared.refutation_fault.RefutationFault.TheVariants as refutations
use Rattle.cover_certificate.specs.declared.any.AnyFault.TheVariants.{OfPieces, ByCovers}
use Rattle.cover_certificate.specs.declared.fault.CoverFault.TheVariants as covers
use Rattle.reading_time.specs.declared.fault.TimesFault.TheVariants as times
use Rattle.report.specs.declared.fault.Input.TheVariants as inputs
use Rattle.report.specs.declared.fault.Input.{Input}
use Rattle.report.specs.declared.fault.RunFault.{RunFault}
use Rattle.report.specs.declared.fault.RunFault.TheVariants as faults
use Rattle.report.specs.declared.fault.SumsFault.{SumsFault}
use Rattle.report.specs.declared.fault.SumsFault.TheVariants as sums

-- what is said of each fault of a capture: its word, and the place of a record whose fault it is
abbrev pub capture_said : CaptureFault → List FieldData
capture_said TornHeader = Word (codes "torn-header") ∷ Nothing ∷ []
capture_said Magic = Word (codes "magic") ∷ Nothing ∷ []
capture_said Version = Word (codes "version") ∷ Nothing ∷ []
capture_said Link = Word (codes "link") ∷ Nothing ∷ []
capture_said (TornRecord place) = Word (codes "torn-record") ∷ Named (codes "at") place ∷ []
capture_said (TooLong place) = Word (codes "too-long") ∷ Named (codes "at") place ∷ []
capture_said (BadFraction place) = Word (codes "bad-fraction") ∷ Named (codes "at") place ∷ []
capture_said TooMany = Word (codes "too-many") ∷ Nothing ∷ []
capture_said Read = Word (codes "read") ∷ Nothing ∷ []
capture_said Memory = Word (codes "memory") ∷ Nothing ∷ []
capture_said Failed = Word (codes "failed") ∷ Nothing ∷ []

-- of a claim: its word, and the code of a field whose fault it is
abbrev pub claim_said : ClaimFault → List FieldData
claim_said claims.Json = Word (codes "json") ∷ Nothing ∷ []
claim_said (claims.Field code) = Word (codes "field") ∷ Named (codes "field") code ∷ []
claim_said claims.Address = Word (codes "address") ∷ Nothing ∷ []
claim_said claims.Time = Word (codes "time") ∷ Nothing ∷ []
claim_said claims.Range = Word (codes "range") ∷ Nothing ∷ []
claim_said claims.RepeatedServer = Word (codes "repeated-server") ∷ Nothing ∷ []
claim_said claims.Memory = Word (codes "memory") ∷ Nothing ∷ []
claim_said claims.Groups = Word (codes "groups") ∷ Nothing ∷ []

-- of a certificate of pieces: its word, and the number of a piece whose fault it is
abbrev pub pieces_said : CertificateFault → List FieldData
pieces_said certificates.Json = Word (codes "json") ∷ Nothing ∷ []
pieces_said certificates.Top = Word (codes "top") ∷ Nothing ∷ []
pieces_said (certificates.Shape piece) =
    Word (codes "shape") ∷ Named (codes "piece") piece ∷ []
pieces_said (certificates.TooManyEntries piece) =
    Word (codes "too-many-entries") ∷ Named (codes "piece") piece ∷ []
pieces_said certificates.TooManyPieces = Word (codes "too-many-pieces") ∷ Nothing ∷ []
pieces_said certificates.Memory = Word (codes "memory") ∷ Nothing ∷ []

-- of one by covers: its word, and the number of a case or of a piece whose fault it is
abbrev pub covers_said : CoverFault → List FieldData
covers_said covers.Json = Word (codes "json") ∷ Nothing ∷ []
covers_said covers.Top = Word (codes "top") ∷ Nothing ∷ []
covers_said covers.TooManyConflicts = Word (codes "too-many-conflicts") ∷ Nothing ∷ []
covers_said covers.Conflicts = Word (codes "conflicts") ∷ Nothing ∷ []
covers_said covers.TooManyCases = Word (codes "too-many-cases") ∷ Nothing ∷ []
covers_said (covers.CaseShape case) = Word (codes "case") ∷ Number case ∷ []
covers_said covers.TooManyPieces = Word (codes "too-many-pieces") ∷ Nothing ∷ []
covers_said (covers.Shape piece) = Word (codes "shape") ∷ Named (codes "piece") piece ∷ []
covers_said (covers.TooManyEntries piece) =
    Word (codes "too-many-entries") ∷ Named (codes "piece") piece ∷ []
covers_said covers.Memory = Word (codes "memory") ∷ Nothing ∷ []

-- of a certificate of either form
abbrev pub certificate_said : AnyFault → List FieldData
certificate_said (OfPieces fault) = pieces_said fault
certificate_said (ByCovers fault) = covers_said fault

-- of a refutation: its word
abbrev pub refutation_said : RefutationFault → List FieldData
refutation_said refutations.Json = Word (codes "json") ∷ Nothing ∷ []
refutation_said refutations.Shape = Word (codes "shape") ∷ Nothing ∷ []
refutation_said refutations.Memory = Word (codes "memory") ∷ Nothing ∷ []

-- of a file of readings: its word, and the number of the line whose fault it is
abbrev pub times_said : TimesFault → List FieldData
times_said (times.Time line) = Word (codes "time") ∷ Named (codes "line") line ∷ []
times_said times.TooMany = Word (codes "too-many") ∷ Nothing ∷ []
times_said times.Memory = Word (codes "memory") ∷ Nothing ∷ []

-- the word for an input
abbrev pub input_word : Input → List ℕ
input_word inputs.Claim = codes "claim"
input_word inputs.Capture = codes "capture"
input_word inputs.Certificate = codes "certificate"
input_word inputs.Refutation = codes "refutation"
input_word inputs.Sums = codes "sums"
input_word inputs.Times = codes "times"

-- an input is refused: which one, its fault's number, and what is said of that
abbrev pub refused : Input → ℕ → List FieldData → List FieldData
refused input number said =
    Word (codes "ntpaudit:") ∷ Word (input_word input) ∷ Number number ∷ said

-- what is said of inputs that can't be held to their sums, or differ from them
abbrev pub sums_fields : SumsFault → List FieldData
sums_fields (sums.Form line) =
    Word (codes "ntpaudit: sums form") ∷ Named (codes "line") line ∷ []
sums_fields (sums.Missing input) =
    Word (codes "ntpaudit: sums missing") ∷ Word (input_word input) ∷ []
sums_fields (sums.Differ input) =
    Word (codes "ntpaudit: sums differ") ∷ Word (input_word input) ∷ []

-- what the line of each fault says
abbrev pub fault_fields : RunFault → List FieldData
fault_fields (faults.Capture fault) =
    refused inputs.Capture (capture_number fault) (capture_said fault)
fault_fields (faults.Claim fault) = refused inputs.Claim (claim_number fault) (claim_said fault)
fault_fields (faults.Certificate fault) =
    refused inputs.Certificate (certificate_number fault) (certificate_said fault)
fault_fields (faults.Refutation fault) =
    refused inputs.Refutation (refutation_number fault) (refutation_said fault)
fault_fields faults.Exchanges = Word (codes "ntpaudit: exchanges over 1000000") ∷ Nothing ∷ []
fault_fields faults.Pieces = Word (codes "ntpaudit: pieces over 100000") ∷ Nothing ∷ []
fault_fields (faults.TooBig input) =
    Word (codes "ntpaudit: too-big") ∷ Word (input_word input) ∷ []
fault_fields (faults.Device input) =
    Word (codes "ntpaudit: device") ∷ Word (input_word input) ∷ []
fault_fields (faults.Write sent) =
    Named (codes "ntpaudit: device output after") sent ∷ Nothing ∷ []
fault_fields faults.Memory = Word (codes "ntpaudit: memory") ∷ Nothing ∷ []
fault_fields (faults.Sums fault) = sums_fields fault
fault_fields (faults.Times fault) = refused inputs.Times (times_number fault) (times_said fault)

-- the line for each fault
abbrev pub fault_text : RunFault → List ℕ
fault_text fault = fields_text Plain (fault_fields fault)
