-- What is called for by words that were taken apart, or told of words that were refused.
use Rattle.std.proofs.Common.{◌≡◌, ◌⊎◌, ◌≢◌, Option, List, [], ◌∷◌, ap, inl, inr, map, subst, true}
use Rattle.std.specs.Prelude.{String, string_bytes}
use Rattle.std.specs.declared.alloc.Global.{Global}
use Rattle.clap.specs.Faults.{fault_of, is_simple_and_free}
use Rattle.clap.specs.Kinds.{IsAmong, Kinds}
use Rattle.clap.specs.Simple.{App, is_simple, subcommand_of}
use Rattle.clap.specs.Walk.{Row, Text}
use Rattle.clap.specs.declared.error.kind.ErrorKind.{ErrorKind}
use Rattle.clap.specs.declared.error.kind.ErrorKind.TheVariants.{OutOfMemory}
use Rattle.command_table.specs.Commands.{ntpaudit}
use Rattle.command_line.specs.Invocation.{IsCalledBy}
use Rattle.command_line.specs.Words.{IsReadOnce, IsTold, Means, MeansBy, counted}
use Rattle.program.specs.declared.invocation.Invocation.{Invocation}

by_rows : (kinds : Kinds) (found : Option (Text × List Row)) (called invocation : Invocation) → kinds ≡ [] →
    IsCalledBy found called → IsReadOnce called invocation → MeansBy kinds found invocation
by_rows kinds found called invocation none is once = rw none (called, is, once)

by_kind : (kinds : Kinds) (found : Option (Text × List Row)) (kind : ErrorKind) (invocation : Invocation) →
    (kind ≡ OutOfMemory) ⊎ IsAmong kind kinds → kind ≢ OutOfMemory → IsTold kind invocation → MeansBy kinds found invocation
by_kind kinds found kind invocation (inl memory) known told = absurd (known memory)
by_kind [] found kind invocation (inr among) known told = absurd among
by_kind (first ∷ others) found kind invocation (inr among) known told = (kind, among, told)

-- what is meant by the program and the words that count, under other names
by_table : (app : App) (words : List (String Global)) (texts : List Text) (invocation : Invocation) →
    app ≡ ntpaudit → texts ≡ map string_bytes (counted words) →
    MeansBy (fault_of app texts) (subcommand_of app texts) invocation → Means words invocation
by_table app words texts invocation app_is texts_are means =
    subst (λ (t : List Text). MeansBy (fault_of ntpaudit t) (subcommand_of ntpaudit t) invocation) texts_are
    (subst (λ (a : App). MeansBy (fault_of a texts) (subcommand_of a texts) invocation) app_is means)

module _ (app : App) (words : List (String Global)) (texts : List Text) (app_is : app ≡ ntpaudit)
    (texts_are : texts ≡ map string_bytes (counted words)) where
  pub means_called : {X : Type 0} {rows : Option (Text × List Row)} (called invocation : Invocation) →
      (is_simple_and_free app ≡ true → fault_of app texts ≡ []) →
      (is_simple app ≡ true → X × (rows ≡ subcommand_of app texts)) →
      IsCalledBy rows called → IsReadOnce called invocation → Means words invocation
  means_called {X} {rows} called invocation none has is once =
      by_table app words texts invocation app_is texts_are
      (by_rows _ _ called invocation (none (ap is_simple_and_free app_is))
      (subst (λ (r : Option (Text × List Row)). IsCalledBy r called) (has (ap is_simple app_is)).1 is) once)

  pub means_told : {kind : ErrorKind} (invocation : Invocation) →
      (is_simple_and_free app ≡ true → (kind ≡ OutOfMemory) ⊎ IsAmong kind (fault_of app texts)) →
      (kind ≢ OutOfMemory) × IsTold kind invocation → Means words invocation
  means_told {kind} invocation fails told =
      by_table app words texts invocation app_is texts_are
      (by_kind _ _ kind invocation (fails (ap is_simple_and_free app_is)) told.0 told.1)
