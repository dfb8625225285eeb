-- The samples of exchanges.
use Rattle.std.proofs.lemmas.Bool.Decides.{nat_tests}
use Rattle.sample_interval.proofs.Common.{◌≡◌, ℕ, ◌^◌, ℤ, pos, ◌≤ℤ◌, List, map, refl, arith, All, ints, IsLawful, Exchange, IsOfSomeClaim, sample_of, IsLawfulSample, Sample}
use Rattle.std.proofs.lemmas.List.Elements.{All-map}

-- samples whose numbers are equal
pub same_sample : {server : ℕ} {low low' from from' to to' high high' begin begin' end end' : ℤ} → low ≡ low' →
    from ≡ from' → to ≡ to' → high ≡ high' → begin ≡ begin' → end ≡ end' →
    ◌≡◌ {A = Sample} record
    { server = server; low = low; low_from = from; low_to = to; high = high; high_from = begin; high_to = end } record
    { server = server; low = low'; low_from = from'; low_to = to'; high = high'; high_from = begin'; high_to = end' }
same_sample a b c d e f = rw (a, b, c, d, e, f) refl

-- the sample of an exchange that keeps its limits keeps its own
pub lawful : (x : Exchange) (reading : ℤ) → IsOfSomeClaim x → pos 0 ≤ℤ reading → reading ≤ℤ pos (2 ^ 32) →
    IsLawfulSample (sample_of x reading)
lawful x reading h from to = grind (arith, ints, nat_tests)

-- and so do those of all
pub lawful_samples : (servers : ℕ) (xs : List Exchange) (reading : ℤ) → All (IsLawful servers) xs →
    pos 0 ≤ℤ reading → reading ≤ℤ pos (2 ^ 32) → All IsLawfulSample (map (λ x. sample_of x reading) xs)
lawful_samples servers xs reading each from to =
    All-map IsLawfulSample (λ x. sample_of x reading) xs
    (λ k d within. lawful _ reading (record { servers = servers; lawful = each k d within }) from to)
