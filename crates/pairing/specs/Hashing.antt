-- How the index hashes a key. Which hash it is matters to speed alone: the index gives the same for
-- each.
use Rattle.std.specs.Prelude.{ℕ, ◌*◌, ◌%◌, ◌^◌, List, bit_or}
use Rattle.pairing.specs.Common.{w64, swap_bytes, fold, u64}
use Rattle.std.specs.Hash.FoldHasher as folding
use Rattle.pairing.specs.declared.hashing.KeyHasher.{KeyHasher}

-- the hasher after these bytes
abbrev pub written : KeyHasher → List ℕ → KeyHasher
written h bytes = record h { folded = folding.write h.folded bytes }

-- the hash of what was written
abbrev pub finished : KeyHasher → ℕ
finished h = swap_bytes w64 ((folding.finish h.folded * h.multiplier) % 2 ^ 64)

-- the hash of one number, of a hasher that starts at `start`
abbrev pub hash_of : {S : Type 0} → (S → List ℕ → S) → (S → ℕ) → S → ℕ → ℕ
hash_of write finish start n = finish (fold write start (u64 n))

-- The hasher of the key of two numbers: the first is hashed before all else, and the second, made
-- odd, is what the last step multiplies by.
abbrev pub keyed : ℕ → ℕ → KeyHasher
keyed first second = record {
  folded = fold folding.write folding.initial (u64 first);
  multiplier = bit_or second 1;
}
