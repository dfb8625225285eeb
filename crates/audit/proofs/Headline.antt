-- What was read of a claim and of a capture, and the pieces of a span.
use Rattle.audit.proofs.Common.{pair_run_fault_of, ◌≡◌, ◌∙◌, ℕ, zero, suc, ◌≤◌, ℤ, pos, List, [], ◌∷◌, Bool, false, length, Option, Some, None, Result, Ok, Err, refl, sym, ap, IsSomeAnd, slice_get, nat_lt, if◌then◌else◌, PieceData, ClaimData, PairFault, answer_of, unless_broken, most_exchanges, Collection, collection_of, exchanges_of, CaptureFault, Record, Coming, capture_of, begin_of, stretches_from, Stretch, capture_read, collection_read, result_map_both, claim_of, or_fault, claim_read, max_claim, whole_read, TooBig, ◌≢◌, IsLawful, IsWithinLimits, arith, nat_tests}
use Rattle.claim_file.specs.declared.fault.ClaimFault.{ClaimFault}
use Rattle.report.specs.declared.fault.Input.TheVariants as inputs
use Rattle.report.specs.declared.fault.RunFault.TheVariants as faults
use Rattle.std.proofs.lemmas.List.Kept.{AllPairs-cons}
use Rattle.pairing.specs.declared.fault.PairFault.TheVariants.{TooManyExchanges}

-- ---- what was read of a claim

whole : (over : Bool) (read : Result ClaimData ClaimFault) (claim : ClaimData) →
    (if over then Err (TooBig inputs.Claim) else or_fault faults.Claim read) ≡ Ok claim → read ≡ Ok claim
whole over read claim is = grind (arith)

pub claim_of_read : (bytes : List ℕ) (claim : ClaimData) → claim_read bytes ≡ Ok claim → claim_of bytes ≡ Ok claim
unfolding whole_read
claim_of_read bytes claim is = whole (nat_lt max_claim (length bytes)) (claim_of bytes) claim is

-- a lawful claim keeps the limits of a claim's text
pub within_limits : (claim : ClaimData) → IsLawful claim → IsWithinLimits claim
within_limits claim lawful =
    let differ = AllPairs-cons (λ a b. a ≢ b) claim.client claim.servers
    (λ k d below same. lawful.client_is_no_server k d below (sym same)) lawful.addresses_differ in
    grind (arith)

-- ---- what was read of a capture

-- the records of the whole capture, of which these are the exchanges
abbrev pub Collected : ClaimData → List ℕ → Collection → Type 0
Collected claim bytes collection = (records : List Record)
    × (capture_of bytes ≡ Ok (record { records = records; fault = None }))
    × (collection.exchanges ≡ exchanges_of claim records)
    × (length (exchanges_of claim records) ≤ most_exchanges)

of_pairs : (r : Result Collection PairFault) (c : Collection) →
    result_map_both (λ collection. collection) pair_run_fault_of r ≡ Ok c → r ≡ Ok c
of_pairs r c is = grind (arith)

unbroken : (fault : Option CaptureFault) (r : Result Collection PairFault) (c : Collection) →
    unless_broken fault r ≡ Ok c → (fault ≡ None) × (r ≡ Ok c)
unbroken fault r c is = grind (arith)

few : (many : Bool) (made c : Collection) → (if many then Err TooManyExchanges else Ok made) ≡ Ok c →
    (c.exchanges ≡ made.exchanges) × (many ≡ false)
few many made c is = grind (arith)

module _ (claim : ClaimData) (bytes : List ℕ) (collection : Collection) where
  of_read : (c : Result Coming CaptureFault) → collection_read claim c ≡ Ok collection → capture_of bytes ≡ c →
      Collected claim bytes collection
  unfolding answer_of collection_of
  of_read (Err fault) read is = absurd cc
  of_read (Ok coming) read is =
      let answered = of_pairs (answer_of claim coming) collection read in
      let (none, made) = unbroken coming.fault (collection_of claim coming.records) collection answered in
      let (same, test) = few (nat_lt most_exchanges (length (exchanges_of claim coming.records))) _ collection made in (
        coming.records,
        is ∙ ap (λ (f : Option CaptureFault). Ok (record { records = coming.records; fault = f })) none,
        same,
        grind (arith, nat_tests, test),
      )

  pub collected_of : capture_read claim bytes ≡ Ok collection → Collected claim bytes collection
  unfolding capture_read
  collected_of read = of_read (capture_of bytes) read refl

-- ---- pieces

-- a stretch of a span is a piece's
pub piece_of : (P : Stretch → Type 0) (begin : ℤ) (pieces : List PieceData) (k : ℕ) →
    IsSomeAnd (slice_get (stretches_from begin pieces) k) P →
    (piece : PieceData) × (slice_get pieces k ≡ Some piece)
    × P (record { begin = begin_of begin pieces k; end = pos piece.upto })
piece_of P begin [] k held = absurd held
piece_of P begin (piece ∷ pieces) zero held = (piece, refl, held)
piece_of P begin (piece ∷ pieces) (suc k) held = piece_of P (pos piece.upto) pieces k held
