-- The exchanges that samples are made of.
use Rattle.std.specs.Prelude.{ℕ}
use Rattle.pairing.specs.declared.exchange.Exchange.{Exchange}
use Rattle.pairing.specs.Exchange.{IsLawful}

-- an exchange that keeps the limits of a capture's exchanges, of a claim with however many servers
pub record IsOfSomeClaim (x : Exchange) : Type 0 where
  pub servers : ℕ
  pub lawful : IsLawful servers x
