use Rattle.pairing.proofs.Common.{◌≡◌, ◌∙◌, ◌%◌, ℕ, sym, bit_or, and_mask, and_or_self}
use Rattle.pairing.proofs.hashing.KeyHasher.keyed_by.Goals as goal

odd : (n : ℕ) → bit_or n 1 % 2 ≡ 1
odd n = sym (and_mask (bit_or n 1) 1) ∙ and_or_self 1 n

pub returns-clause-odd : goal.returns-clause-odd
returns-clause-odd g c = odd c.hash_one-2.result
