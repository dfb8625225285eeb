-- How a count goes on, record by record.
use Rattle.std.proofs.Common.{◌≡◌, ◌∙◌, ◌+◌, ℕ, suc, length, List, Option, Some, None, Ok, Err, refl, ap, subst, arith, inl, inr}
use Rattle.std.specs.Prelude.{IfSome}
use Rattle.pcap_reader.specs.declared.fault.CaptureFault.{CaptureFault}
use Rattle.pcap_reader.specs.declared.fault.CaptureFault.TheVariants as faults
use Rattle.pcap_reader.specs.declared.format.RecordHead.{RecordHead}
use Rattle.pcap_reader.specs.Remaining.{Coming}
use Rattle.pcap_reader.specs.Source.{IsNext}
use Rattle.worked_examples.specs.Count.{IsCountOf}

-- this many of the records to come were counted, and the others are still to come
abbrev pub HasCounted : Option Coming → Option Coming → ℕ → Type 0
HasCounted None now count = Unit {0}
HasCounted (Some whole) now count =
    (rest : Coming) × (now ≡ Some rest) × (whole.fault ≡ rest.fault)
    × (length whole.records ≡ count + length rest.records)

pub counted_none : (start : Option Coming) → HasCounted start start 0
counted_none None = tt
counted_none (Some whole) = (whole, refl, refl, omega arith)

-- what holds of what is there
at_some : {X : Type 0} (o : Option X) (x : X) (P : X → Type 0) → o ≡ Some x → IfSome o P → P x
at_some None x P e h = cc
at_some (Some y) x P e h = let same : y ≡ x = cc in subst P same h

module _ (old new : Option Coming) where
  -- a record more
  pub counted_more : (start : Option Coming) (count : ℕ) (head : RecordHead) (lent : List ℕ) →
      HasCounted start old count → IfSome old (λ c. IsNext c (Ok (Some head)) new lent) →
      HasCounted start new (count + 1)
  counted_more None count head lent counted next = tt
  counted_more (Some whole) count head lent (now, is, fault, records) next =
      let h = at_some old now (λ c. IsNext c (Ok (Some head)) new lent) is next in
      let long : length now.records ≡ suc (length h.0.records) = ap (λ (c : Coming). length c.records) h.1 in
      (h.0, h.2, fault ∙ ap (λ (c : Coming). c.fault) h.1, omega arith)

  -- a whole end
  pub counted_whole : (start : Option Coming) (count : ℕ) (lent : List ℕ) →
      HasCounted start old count → IfSome old (λ c. IsNext c (Ok None) new lent) →
      IfSome start (λ c. IsCountOf c (Ok count))
  counted_whole None count lent counted next = tt
  counted_whole (Some whole) count lent (now, is, fault, records) next =
      let h = at_some old now (λ c. IsNext c (Ok None) new lent) is next in
      let none : length now.records ≡ 0 = ap (λ (c : Coming). length c.records) h.0 in
      (fault ∙ ap (λ (c : Coming). c.fault) h.0, omega arith)

  -- a fault
  pub counted_fault : (start : Option Coming) (count : ℕ) (fault : CaptureFault) (lent : List ℕ) →
      HasCounted start old count → (fault ≡ faults.Failed → ⊥) → IfSome old (λ c. IsNext c (Err fault) new lent) →
      IfSome start (λ c. IsCountOf c (Err fault))
  counted_fault None count fault lent counted not next = tt
  counted_fault (Some whole) count faults.Read lent counted not next = inl refl
  counted_fault (Some whole) count faults.Failed lent counted not next = absurd (not refl)
  counted_fault (Some whole) count fault lent (now, is, same, records) not next =
      inr (same ∙ ap (λ (c : Coming). c.fault) (at_some old now (λ c. IsNext c (Err fault) new lent) is next))
