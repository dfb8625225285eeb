-- What the text of an address says, beside the relation between texts and addresses.
use Rattle.claim_file.proofs.Common.{◌≡◌, ℕ, List, [], ◌∷◌, Option, Some, None, option_and_then, refl, sym, ap, ◌∙◌, subst, append-nil, lit≤, IsDotted, IsIpv4Text, read_ipv4, whole, address_of}
use Rattle.std.specs.declared.net.ipv4_addr.Ipv4Addr.{Ipv4Addr}
use Rattle.std.proofs.NetLemmas.Ipv4.{read_ipv4_sound, read_ipv4_complete}

-- a text that writes an address says it
pub address_of-IsDotted : (text octets : List ℕ) → IsDotted text octets → address_of text ≡ Some octets
address_of-IsDotted text octets written =
    ap (option_and_then whole) (rw append-nil at (read_ipv4_complete text octets [] written (lit≤ tt)))

-- a text that says an address writes it
pub IsDotted-address_of : (text octets : List ℕ) → address_of text ≡ Some octets → IsDotted text octets
IsDotted-address_of text octets says = at (read_ipv4 text) refl says
  where
    at : (r : Option (List ℕ × List ℕ)) → read_ipv4 text ≡ r → option_and_then whole r ≡ Some octets →
        IsDotted text octets
    at None e h = cc
    at (Some (o, [])) e h =
        let (front, split, spells) = read_ipv4_sound text o [] e in
        let same : front ≡ text = sym (append-nil front) ∙ sym split in
        let value : o ≡ octets = cc in
        subst (λ v. IsDotted text v) value (subst (λ t. IsDotted t o) same spells)
    at (Some (o, c ∷ rest)) e h = cc

-- where a text writes no address, it says none
pub address_of-none : (text : List ℕ) → ((a : Ipv4Addr) → ¬ (IsIpv4Text text a)) → address_of text ≡ None
address_of-none text none = at (address_of text) refl
  where
    at : (o : Option (List ℕ)) → address_of text ≡ o → o ≡ None
    at None e = refl
    at (Some octets) e = absurd (none (record { octets = octets }) (IsDotted-address_of text octets e))
